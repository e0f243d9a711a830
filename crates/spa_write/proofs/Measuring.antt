-- How long pods without members are.
use Rattle.std.proofs.Common.{◌≡◌, ℕ, ◌<◌, ◌≤◌, length, Result, Ok, Err, IfOk, ap, sym, ◌∙◌}
use Rattle.spa_sink.specs.declared.gen_error.GenError.{GenError}
use Rattle.spa_format.specs.Kind.{Kind, Fixed}
use Rattle.spa_format.specs.Words.{extent, size_limit}
use Rattle.spa_format.specs.Tree.{Tree, pointer, type_of}
use Rattle.spa_format.specs.Encoding.{encoded_body}
use Rattle.spa_format.specs.Writable.{HasNul, IsTooLarge}
use Rattle.spa_format.proofs.Encodings.{length-encoded_pod, pointer_encoding_length}
use Rattle.spa_utils.specs.declared.choice.ChoiceEnum.{ChoiceEnum}
use Rattle.spa_utils.specs.declared.choice.ChoiceEnum.TheVariants as E
use Rattle.spa_fixed_sized.specs.Choices.{choice_enum_tree}
use Rattle.spa_write.specs.Measured.{IsMeasured}

-- from the size of its body
pub measured_as : (v : Tree) (n : ℕ) → n ≡ extent (length (encoded_body v)) → ¬ (HasNul v) →
    ¬ (IsTooLarge v) → IsMeasured v n
measured_as v n e f g =
    record { size = e ∙ sym (length-encoded_pod (type_of v) (encoded_body v)); writable = record { no_nul = f; fits = g } }

-- where that may be too large
pub pod_measured : (r : Result ℕ GenError) (size : ℕ) (v : Tree) → size ≡ length (encoded_body v) →
    ¬ (HasNul v) → (size < size_limit → ¬ (IsTooLarge v)) → IfOk r (λ n. n ≡ extent size) →
    IfOk r (λ _. size < size_limit) → IfOk r (λ n. IsMeasured v n)
pod_measured (Ok n) size v e f g x s = measured_as v n (x ∙ ap extent e) f (g s)
pod_measured (Err d) size v e f g x s = tt

pub pointer_measured : (t a n : ℕ) → n ≡ 24 → IsMeasured (pointer t a) n
pointer_measured t a n e =
    record { size = e ∙ sym (pointer_encoding_length t a); writable = record { no_nul = λ n. n; fits = λ n. n } }

pub choice_no_nul : {T : Type 0} (k : Kind) (f : T → Fixed) (n : ℕ) (c : ChoiceEnum T) →
    ¬ (HasNul (choice_enum_tree k f n c))
choice_no_nul k f n (E.None x) h = h
choice_no_nul k f n _ h = h

pub choice_large : {T : Type 0} (k : Kind) (f : T → Fixed) (n : ℕ) (c : ChoiceEnum T) →
    IsTooLarge (choice_enum_tree k f n c) → size_limit ≤ length (encoded_body (choice_enum_tree k f n c))
choice_large k f n (E.None x) h = h
choice_large k f n _ h = h
