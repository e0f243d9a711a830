-- Structs that are rewritten member by member.
use Rattle.std.proofs.Common.{◌≡◌, ℕ, List, ◌++◌, inl, refl, sym, ap, ◌∙◌, subst, append_assoc}
use Rattle.std.specs.Prelude.{⊤}
use Rattle.spa_bytes.specs.Opening.{Opens}
use Rattle.spa_format.specs.Lenient.{ConveyMembers}
use Rattle.spa_format.specs.Tree.{Trees, struct, struct_type}
use Rattle.spa_format.specs.Words.{word_at}
use Rattle.spa_format.proofs.Fronts.{body_of_front, type_of_front, whole_front}
use Rattle.spa_read.specs.Reading.{ConveysWith}
use Rattle.spa_lenient.specs.Rewriting.{AppendsFront, AppendsStruct}

-- the front conveys the struct of what its body conveys
pub struct_conveyed : (input body rest : List ℕ) (type : ℕ) (vs : Trees) → Opens input type body rest → type ≡ struct_type → ConveyMembers vs body →
    ConveysWith input (struct vs) rest
struct_conveyed input body rest type vs o e m =
    let all = whole_front input (word_at input 4) (λ c. ⊤) o.there refl tt in
    record {
      begins = record {
        there = o.there;
        conveys = record {
          whole = all.whole;
          content = inl (type_of_front input ∙ sym o.its_type ∙ e, subst (ConveyMembers vs) (o.its_body ∙ sym (body_of_front input)) m);
        };
      };
      follows = o.its_rest;
    }

pub struct_appended : (input body rest old new : List ℕ) (type : ℕ) → Opens input type body rest → type ≡ struct_type → AppendsStruct body old new →
    AppendsFront input rest old new
struct_appended input body rest old new type o e a = (struct a.0, struct_conveyed input body rest type a.0 o e a.1, a.2)

-- what was appended behind a header
pub behind_header : (old head now new xs : List ℕ) → now ≡ old ++ head → new ≡ now ++ xs → new ≡ old ++ (head ++ xs)
behind_header old head now new xs h e = e ∙ ap (λ l. l ++ xs) h ∙ append_assoc old head xs

-- What grows.
