-- What a rewriting is worth.
use Rattle.std.proofs.Common.{◌≡◌, ◌≤◌, ℕ, List, [], length, ap, sym, ◌∙◌, refl, subst}
use Rattle.std.proofs.lemmas.List.{append-nil}
use Rattle.spa_format.specs.Tree.{Tree, Trees, member, no_trees}
use Rattle.spa_format.specs.Words.{word_at, extent}
use Rattle.spa_format.specs.Pod.{AreMembers, IsPod}
use Rattle.spa_format.specs.Encoding.{encoding_of}
use Rattle.spa_format.specs.Typed.{IsBytes}
use Rattle.spa_format.specs.Front.{Begins, IsRefused, front_of}
use Rattle.spa_format.proofs.WordLemmas.{IsBytes-take}
use Rattle.spa_format.proofs.Origin.{rewriting_is_pod, same_rewriting}
use Rattle.spa_format.proofs.Short.{shortest}
use Rattle.spa_fixed_sized.specs.declared.fault.DeserializeError.{DeserializeError}
use Rattle.spa_fixed_sized.specs.declared.fault.DeserializeError.TheVariants as error
use Rattle.spa_format.proofs.Refused.{refused_behind_members}
use Rattle.spa_bodies.specs.Reading.{OnFault}
use Rattle.spa_canonical.specs.Rewriting.{IsLeft, IsRewriting}

-- one pod is a list
pub alone : (front : List ℕ) (v : Tree) → IsPod front v → AreMembers (member v no_trees) front
alone front v p = (front, [], sym (append-nil front), p, refl)

IsBytes-front_of : (b : List ℕ) → IsBytes b → IsBytes (front_of b)
IsBytes-front_of b h = IsBytes-take (extent (word_at b 0)) b h

pub rewriting_of : (input out : List ℕ) (v : Tree) → IsBytes input → Begins input v → out ≡ encoding_of v → IsRewriting input out
rewriting_of input out v f b e =
    let g = IsBytes-front_of input f in
    record {
      value = v;
      begins = b;
      written = e;
      again = subst (λ l. IsPod l v) (sym e) (rewriting_is_pod (front_of input) v g b.pod);
      shortest = λ c k. subst (λ l. length l ≤ length c) (sym e) (shortest c v k);
      same = λ c w h k. (λ i. ap encoding_of i ∙ sym e, λ i. same_rewriting c (front_of input) w v h g k b.pod (i ∙ e));
    }

on_fault : {I : Type 0} {A B : Type 0} → (A → B) → (e : DeserializeError I) → OnFault A e → OnFault B e
on_fault f error.OutOfMemory h = tt
on_fault f _ h = f h

-- what is left behind some first pods is refused, and so the input isn't pods one after another
pub no_members : {I : Type 0} (input left : List ℕ) → IsLeft input left → (e : DeserializeError I) → OnFault (IsRefused left) e → OnFault ((vs : Trees) → ¬ (AreMembers vs input)) e
no_members input left l e h = on_fault (λ r ws m. refused_behind_members l.0 ws l.1 left l.3 l.4 r (subst (AreMembers ws) l.2 m)) e h
