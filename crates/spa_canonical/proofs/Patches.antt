-- Pods that become their rewritings in place.
use Rattle.std.proofs.Common.{◌≡◌, ℕ, ◌≤◌, List, ◌++◌, length, drop, take, sym, ap, ◌∙◌, subst, arith, append_assoc}
use Rattle.std.proofs.lemmas.List.{length-take-le, take-take, take_at}
use Rattle.spa_format.specs.Words.{padding, word_at, word_bytes}
use Rattle.spa_format.specs.Tree.{Tree, type_of}
use Rattle.spa_format.specs.Pod.{IsBody, IsPod}
use Rattle.spa_format.specs.Encoding.{encoded_pod}
use Rattle.spa_format.specs.Typed.{IsBytes}
use Rattle.spa_format.proofs.WordLemmas.{IsBytes-take, word_at-take}
use Rattle.spa_canonical.proofs.Words.{two_words_back}
use Rattle.spa_canonical.specs.Emit.{IsPodOf}
use Rattle.spa_canonical.proofs.Lengths.{lengths}

-- the two words at the front
pub two_words_of : (b : List ℕ) → IsBytes (take 8 b) → 8 ≤ length b → take 8 b ≡ word_bytes (word_at b 0) ++ word_bytes (word_at b 4)
two_words_of b h l =
    two_words_back (take 8 b) h (length-take-le 8 b l) ∙ ap (λ n. word_bytes n ++ word_bytes (word_at (take 8 b) 4)) (word_at-take 8 0 b (omega arith))
    ∙ ap (λ n. word_bytes (word_at b 0) ++ word_bytes n) (word_at-take 8 4 b (omega arith))

-- the header of a pod, another body of its size, and padding
pub pod_again : (pod x : List ℕ) (type size : ℕ) → IsBytes (take 8 pod) → IsPodOf pod type size → length x ≡ size →
    take 8 pod ++ (x ++ padding size) ≡ encoded_pod type x
pod_again pod x type size h p e =
    let words : take 8 pod ≡ word_bytes size ++ word_bytes type =
    two_words_of pod h (omega arith) ∙ ap (λ n. word_bytes n ++ word_bytes (word_at pod 4)) p.its_size
    ∙ ap (λ n. word_bytes size ++ word_bytes n) p.its_type in
    ap (λ y. y ++ (x ++ padding size)) words ∙ append_assoc (word_bytes size) (word_bytes type) (x ++ padding size)
    ∙ ap (λ n. word_bytes n ++ (word_bytes type ++ (x ++ padding n))) (sym e)

-- the first bytes of what others are behind
pub front_bytes : (new pod rest : List ℕ) (n m : ℕ) → n ≤ m → m ≤ length pod → IsBytes new → new ≡ take m pod ++ rest → IsBytes (take n pod)
front_bytes new pod rest n m l r h e =
    subst IsBytes (ap (take n) (ap (take m) e ∙ take_at (take m pod) rest m (length-take-le m pod r)) ∙ take-take n m pod l) (IsBytes-take n (take m new) (IsBytes-take m new h))

-- what a pod says of its body
pub record SaysBody (pod : List ℕ) (type size : ℕ) (v : Tree) : Type 0 where
  pub its_type : type_of v ≡ type
  pub its_body : IsBody v (take size (drop 8 pod))
  pub long : length (take size (drop 8 pod)) ≡ size

pub says_body : (pod : List ℕ) (type size : ℕ) (v : Tree) → IsPodOf pod type size → IsPod pod v → SaysBody pod type size v
says_body pod type size v p w =
    record {
      its_type = sym w.its_type ∙ p.its_type;
      its_body = subst (λ n. IsBody v (take n (drop 8 pod))) p.its_size w.content;
      long = length-take-le size (drop 8 pod) (omega lengths);
    }
