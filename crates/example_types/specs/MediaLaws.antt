-- The law of a media's refusals.
use Rattle.std.specs.Prelude.{◌≡◌, ◌≢◌, ℕ, List, refl}
use Rattle.std.proofs.Common.{sym, ap, ◌∙◌, subst, arith}
use Rattle.std.specs.Borrow.{Bor}
use Rattle.libspa.specs.ChoiceValue.{ChoiceValue}
use Rattle.libspa.specs.ChoiceValues as C
use Rattle.libspa.specs.Choices.{choice_tree}
use Rattle.libspa.specs.Declining.{DeclinesOthers}
use Rattle.libspa.specs.DeserializeError.{DeserializeError}
use Rattle.libspa.specs.ExactlyLaws.{choice_asked, fault_there}
use Rattle.libspa.specs.Id.{Id}
use Rattle.libspa.specs.Kind.{Fixed, Kind, bool, id, int, long, float, double, rectangle, fraction, fd, bool_kind, id_kind, int_kind, long_kind, float_kind, double_kind, rectangle_kind, fraction_kind, fd_kind, type_number}
use Rattle.libspa.specs.Never.{Never}
use Rattle.libspa.specs.Reading.{OnMemory}
use Rattle.libspa.specs.Tree.{Tree, choice_type, fixed, type_of}
use Rattle.libspa.specs.View.{choice_view}
use Rattle.libspa.specs.Visit.{Visit}
use Rattle.libspa.specs.VisitCases as visit
use Rattle.libspa.specs.Visiting.{DeclinesExactlyOf, SaysValue}
use Rattle.example_types.specs.Media.{media_content, media_id, media_tree}
use Rattle.example_types.specs.declared.media.Media.{Media}

-- the type of an Id isn't that of a choice
pub no_choice : type_number id_kind ≢ choice_type
no_choice e = absurd (omega (arith, e))

chosen : {T : Type 0} (k : Kind) (f : T → Fixed) (c : _) → type_of (choice_tree k f c) ≡ choice_type
chosen k f c = ap type_of (choice_asked k f (choice_tree k f c) c refl).4

choice_is : (c : ChoiceValue) → type_of (choice_view c) ≡ choice_type
choice_is (C.Bool c) = chosen bool_kind (λ x. bool x) c
choice_is (C.Id c) = chosen id_kind (λ x. id x.0) c
choice_is (C.Int c) = chosen int_kind (λ x. int x) c
choice_is (C.Long c) = chosen long_kind (λ x. long x) c
choice_is (C.Float c) = chosen float_kind (λ x. float x.0) c
choice_is (C.Double c) = chosen double_kind (λ x. double x.0) c
choice_is (C.Rectangle c) = chosen rectangle_kind (λ x. rectangle x.width x.height) c
choice_is (C.Fraction c) = chosen fraction_kind (λ x. fraction x.num x.denom) c
choice_is (C.Fd c) = chosen fd_kind (λ x. fd x.0) c

-- a content of the value of an Id is that Id
id_content : (given : Visit Never) (v : Tree) (x : Id) → SaysValue given v → v ≡ fixed (id x.0) → given ≡ visit.Id x
id_content (visit.Id y) v x says is =
    let same : y.0 ≡ x.0 = cc (says, is) in ap (λ n. visit.Id (record { 0 = n })) same
id_content (visit.Array xs) v x says is = absurd says
id_content (visit.Choice c) v x says is = absurd (no_choice (ap type_of (sym is ∙ says) ∙ choice_is c))
id_content _ v x says is = absurd (cc (says, is))

-- what isn't the content of a media is that of no media's value
pub media_declined : (given : Visit Never) (v : Tree) (e : DeserializeError (Bor (List ℕ))) → SaysValue given v →
    DeclinesOthers media_content given e → DeclinesExactlyOf (λ w (it : Media). w ≡ media_tree it) ⊥ v e
media_declined given v e says other = record {
  unread = fault_there ((it : Media) → v ≢ media_tree it) e (λ it is. other.1 it (id_content given v (media_id it) says is));
  memory = subst (OnMemory ⊥) (sym other.0) tt;
}
