-- An object at the front of an input.
use Rattle.std.proofs.Common.{◌≡◌, ℕ, List, ◌++◌, drop, refl, sym, ap, ◌∙◌, subst, append_assoc}
use Rattle.std.proofs.lemmas.List.{drop_at}
use Rattle.spa_format.specs.Words.{word_at, word_bytes}
use Rattle.spa_format.specs.Tree.{object, object_type}
use Rattle.spa_format.specs.Pod.{AreProperties, IsBody}
use Rattle.spa_format.specs.Encoding.{encoded_body, property_encodings}
use Rattle.spa_format.specs.Front.{Begins}
use Rattle.spa_format.specs.Typed.{IsBytes}
use Rattle.spa_format.proofs.Shapes.{object_only}
use Rattle.spa_format.proofs.Encodings.{two_words_length}
use Rattle.spa_bytes.specs.Opening.{Opens}
use Rattle.spa_bodies.proofs.Steps.{pod_read}
use Rattle.spa_canonical.specs.Canonical.{AreCanonicalProperties, BeginsCanonical}
use Rattle.spa_canonical.proofs.Made.{made_body}
use Rattle.spa_object_view.specs.declared.object_view.ObjectView.{ObjectView}
use Rattle.spa_object_view.specs.Fronts.{BeginsView, IsObjectBody}
use Rattle.spa_object_view.specs.Written.{BeginsWritten}

-- a canonical front, opened
pub begins_written : (input rest body behind properties : List ℕ) (type : ℕ) → IsBytes input →
    BeginsCanonical input rest → Opens input type body behind → type ≡ object_type →
    properties ≡ drop 8 body → BeginsWritten input (word_at body 0) (word_at body 4) properties
begins_written input rest body behind properties type h k o t d =
    let m = made_body input rest body behind type h k o in
    let c = m.canonical in
    let i = object_only c.value (c.its_type ∙ t) in
    let b = subst (λ x. IsBody x body) i.3 c.its_body in
    let same : drop 8 body ≡ property_encodings i.2 =
    ap (drop 8) (c.same ∙ ap encoded_body i.3 ∙ sym (append_assoc (word_bytes i.0) (word_bytes i.1) (property_encodings i.2)))
    ∙ drop_at (word_bytes i.0 ++ word_bytes i.1) (property_encodings i.2) 8 (two_words_length i.0 i.1) in
    let its : k.value ≡ object (word_at body 0) (word_at body 4) i.2 =
    sym m.value ∙ i.3 ∙ ap (λ n. object n i.1 i.2) b.1 ∙ ap (λ n. object (word_at body 0) n i.2) b.2 in
    record {
      values = i.2;
      begins = subst (Begins input) its k.begins.begins;
      written = record {
        properties = subst (λ l. AreProperties i.2 l) (sym d) b.3;
        same = d ∙ same;
      };
    }

-- an object whose properties are canonical
pub begins_leaves : (input body rest : List ℕ) (view : ObjectView) → Opens input object_type body rest → IsObjectBody body view →
    AreCanonicalProperties view.properties.now → BeginsView input view
begins_leaves input body rest view o i c =
    let properties = subst (λ l. AreProperties c.values l) i.properties c.properties in
    let read = pod_read input body rest object_type (object view.type_ view.id c.values) o refl (i.header, i.type, i.id, properties) in
    record { values = c.values; begins = read.begins; written = record { properties = c.properties; same = c.same } }

-- the same by the view's parts
pub begins_view : (input rest body behind : List ℕ) (view : ObjectView) → IsBytes input → BeginsCanonical input rest →
    Opens input object_type body behind → IsObjectBody body view → BeginsView input view
begins_view input rest body behind view h k o i =
    let w = begins_written input rest body behind view.properties.now object_type h k o refl i.properties in
    subst (λ t. BeginsWritten input t view.id view.properties.now) (sym i.type)
    (subst (λ n. BeginsWritten input (word_at body 0) n view.properties.now) (sym i.id) w)
