-- Steps of the reader: a pod from its body, one more member, one more property, and where a fault stands among them.
use Rattle.std.proofs.Common.{◌≡◌, ℕ, List, ◌++◌, refl, sym, ap, ◌∙◌, subst}
use Rattle.spa_format.specs.Tree.{Tree, choice_type, type_of}
use Rattle.spa_format.specs.Pod.{IsBody}
use Rattle.spa_format.specs.Front.{Begins, front_of}
use Rattle.spa_format.proofs.Fronts.{whole_front, front_and_rest}
use Rattle.spa_format.proofs.Unique.{one_value}
use Rattle.spa_format.specs.Kind.{Kind, Fixed}
use Rattle.spa_utils.specs.declared.choice.ChoiceEnum.{ChoiceEnum}
use Rattle.spa_utils.specs.declared.choice.ChoiceEnum.TheVariants as E
use Rattle.spa_utils.specs.declared.choice.Choice.{Choice}
use Rattle.spa_fixed_sized.specs.Choices.{choice_enum_tree, choice_tree}
use Rattle.spa_bytes.specs.Opening.{Opens}
use Rattle.spa_bodies.specs.Reading.{BeginsWith}

-- the type of a choice's pod, whatever it is over
pub type_of_choice : {T : Type 0} (k : Kind) (f : T → Fixed) (c : Choice T) →
    type_of (choice_tree k f c) ≡ choice_type
type_of_choice k f c = of_values k f c.0.0 c.1
  where
    of_values : {T : Type 0} (k : Kind) (f : T → Fixed) (n : ℕ) (e : ChoiceEnum T) →
        type_of (choice_enum_tree k f n e) ≡ choice_type
    of_values k f n (E.None x) = refl
    of_values k f n (E.Range x a b) = refl
    of_values k f n (E.Step x a b s) = refl
    of_values k f n (E.Enum x xs) = refl
    of_values k f n (E.Flags x xs) = refl

-- the pod at the front, from its type number and its body
pub pod_read : (input body rest : List ℕ) (type : ℕ) (v : Tree) →
    Opens input type body rest → type_of v ≡ type → IsBody v body → BeginsWith input v rest
pod_read input body rest type v o t c = record {
  begins = record {
    there = o.there;
    pod = whole_front input (type_of v) (IsBody v) o.there (sym o.its_type ∙ sym t) (subst (IsBody v) o.its_body c);
  };
  follows = o.its_rest;
}

-- the front is a pod of no other value
pub only_value : (input : List ℕ) (v : Tree) (rest : List ℕ) →
    BeginsWith input v rest → (w : Tree) → Begins input w → w ≡ v
only_value input v rest r w b = one_value (front_of input) w v b.pod r.begins.pod

-- an input is the front and what follows it
pub parted : (input : List ℕ) (v : Tree) (rest : List ℕ) → BeginsWith input v rest → input ≡ front_of input ++ rest
parted input v rest r = front_and_rest input ∙ ap (λ l. front_of input ++ l) (sym r.follows)
