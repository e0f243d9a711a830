-- The encodings of texts and bytes, as they are appended.
use Rattle.std.proofs.Common.{◌≡◌, ℕ, ◌+◌, List, [], ◌∷◌, ◌++◌, length, sym, ap, ◌∙◌, append_assoc, length-append}
use Rattle.spa_format.specs.Words.{padding, word_bytes}
use Rattle.spa_format.specs.Tree.{string, string_type}
use Rattle.spa_format.specs.Encoding.{encoding_of, encoded_pod}

pub pod_parts : (n type : ℕ) (b : List ℕ) → n ≡ length b →
    encoded_pod type b ≡ (word_bytes n ++ word_bytes type) ++ (b ++ padding (length b))
pod_parts n type b e =
    ap (λ k. word_bytes k ++ (word_bytes type ++ (b ++ padding (length b)))) (sym e)
    ∙ sym (append_assoc (word_bytes n) (word_bytes type) (b ++ padding (length b)))

pub string_parts : (n : ℕ) (s b : List ℕ) → b ≡ s → n ≡ length b + 1 →
    encoding_of (string s) ≡ (word_bytes n ++ word_bytes string_type) ++ (b ++ 0 ∷ padding (length b + 1))
string_parts n s b same e =
    let size : length (b ++ 0 ∷ []) ≡ length b + 1 = length-append b (0 ∷ []) in
    ap (λ l. encoded_pod string_type (l ++ 0 ∷ [])) (sym same)
    ∙ pod_parts n string_type (b ++ 0 ∷ []) (e ∙ sym size)
    ∙ ap (λ k. (word_bytes n ++ word_bytes string_type) ++ ((b ++ 0 ∷ []) ++ padding k)) size
    ∙ ap (λ l. (word_bytes n ++ word_bytes string_type) ++ l) (append_assoc b (0 ∷ []) (padding (length b + 1)))
