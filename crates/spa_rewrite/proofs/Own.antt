-- A canonical front.
use Rattle.std.proofs.Common.{◌≡◌, ℕ, List, refl, sym, ap, ◌∙◌}
use Rattle.spa_format.specs.Encoding.{encoding_of}
use Rattle.spa_format.specs.Front.{front_of, rest_of}
use Rattle.spa_format.proofs.Unique.{one_value}
use Rattle.spa_canonical.specs.Canonical.{BeginsCanonical}
use Rattle.spa_canonical.specs.Rewriting.{IsRewriting}

-- a front that is the rewriting
pub same_is_own : (input out : List ℕ) → IsRewriting input out → front_of input ≡ out → BeginsCanonical input (rest_of input)
same_is_own input out r e = record {
  value = r.value;
  begins = record { begins = r.begins; follows = refl };
  same = e ∙ r.written;
}

-- and the other way round
pub own_is_same : (input out rest : List ℕ) → IsRewriting input out → BeginsCanonical input rest → front_of input ≡ out
own_is_same input out rest r c = c.same ∙ ap encoding_of (one_value (front_of input) c.value r.value c.begins.begins.pod r.begins.pod) ∙ sym r.written
