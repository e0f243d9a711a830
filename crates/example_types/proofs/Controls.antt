-- What no control is read from.
use Rattle.std.proofs.Common.{◌≡◌, ◌≢◌, ◌++◌, ◌∷◌, ℕ, List, sym, ◌∙◌, subst}
use Rattle.std.specs.List.{All}
use Rattle.libspa.specs.DeserializeError.{DeserializeError}
use Rattle.libspa.specs.DeserializeErrors as error
use Rattle.libspa.specs.GenError.{GenError}
use Rattle.libspa.specs.GenErrors as gen_error
use Rattle.libspa.specs.Writing.{RefusedFor}
use Rattle.libspa.specs.Front.{Begins}
use Rattle.libspa.specs.Kind.{float}
use Rattle.libspa.specs.Tree.{Tree, fixed, object}
use Rattle.libspa.specs.View.{view}
use Rattle.libspa.specs.Writable.{HasNul, IsTooLarge, IsWritable}
use Rattle.libspa.specs.Views.{property_views}
use Rattle.libspa.specs.Property.{Property}
use Rattle.spa_names.specs.declared.keys.TheConstants.{PROP_VOLUME}
use Rattle.example_types.specs.Control.{BeginsNoControl, IsControl, IsNoControl, IsObject}
use Rattle.example_types.proofs.Lists.{key_there, same_first}

-- what is no object
pub of_no_object : (v : Tree) → ¬ (IsObject v) → IsNoControl v
of_no_object v n c r = n (subst IsObject (sym r.tree) tt)

-- an object without a volume
pub without_volume : (v : Tree) (t i : ℕ) (ps : List Property) → v ≡ object t i (property_views ps) →
    All (λ (q : Property). q.key ≢ PROP_VOLUME) ps → IsNoControl v
without_volume v t i ps e none c r =
    key_there PROP_VOLUME c.flags.0 (fixed (float c.volume.0)) ps (property_views c.before.properties.items) (property_views c.behind.properties.items)
    (cc (sym e ∙ r.tree)) none

-- one whose first volume isn't a Float
pub of_other_volume : (v : Tree) (t i : ℕ) (ps qs : List Property) (p : Property) → v ≡ object t i (property_views (ps ++ p ∷ qs)) →
    All (λ (q : Property). q.key ≢ PROP_VOLUME) ps → p.key ≡ PROP_VOLUME → ((n : ℕ) → view p.value ≢ fixed (float n)) → IsNoControl v
of_other_volume v t i ps qs p e none k other c r =
    other c.volume.0
    (same_first PROP_VOLUME c.flags.0 (fixed (float c.volume.0)) ps c.before.properties.items p qs (property_views c.behind.properties.items)
    (cc (sym e ∙ r.tree)) k none r.first)

-- the one value of a front is read as no control
pub front_refused : (b : List ℕ) (v : Tree) → ((w : Tree) → Begins b w → w ≡ v) → IsNoControl v → BeginsNoControl b
front_refused b v one n w g c r = n c (subst (IsControl c) (one w g) r)

-- a write that isn't refused for memory is of what can't be written
pub not_writable : (v : Tree) (e : GenError) → RefusedFor (HasNul v) (IsTooLarge v) (λ f. f ≡ gen_error.OutOfMemory) e →
    e ≢ gen_error.OutOfMemory → ¬ (IsWritable v)
not_writable v gen_error.NulInText r n w = w.no_nul r
not_writable v gen_error.TooLarge r n w = w.fits r
not_writable v gen_error.Full r n w = n r
not_writable v gen_error.WrongCount r n w = n r
not_writable v gen_error.Failed r n w = n r
not_writable v gen_error.Io r n w = n r
not_writable v gen_error.OutOfMemory r n w = n r
