-- Lists of properties, cut at one of them, and how long they are.
use Rattle.std.proofs.Common.{◌≡◌, ℕ, ◌+◌, ◌<◌, ◌≤◌, ◌^◌, inl, inr, ⊎_elim, List, ◌++◌, length, take, drop, get_or, refl, sym, ap, ◌∙◌, subst, arith, length-append}
use Rattle.std.proofs.lemmas.List.{append-nil}
use Rattle.spa_sink.specs.declared.gen_error.GenError.{GenError}
use Rattle.spa_sink.specs.declared.gen_error.GenError.TheVariants.{TooLarge}
use Rattle.spa_sink.specs.Writing.{RefusesWrite}
use Rattle.spa_format.specs.Words.{header_size, size_limit}
use Rattle.spa_format.specs.Tree.{Tree, object, object_type, Properties, no_properties, property, join_properties}
use Rattle.spa_format.specs.Encoding.{encoded_body, encoding_of, property_encodings}
use Rattle.spa_format.specs.Typed.{AllPropertiesTyped, IsTyped}
use Rattle.spa_format.specs.Writable.{IsTooLarge, IsWritable, SomeValueHasNul, SomeValueTooLarge}
use Rattle.spa_value.specs.declared.object.Object.{Object, out-Object}
use Rattle.spa_value.specs.declared.object.Property.{Property}
use Rattle.spa_value.specs.declared.value.Value.{Value}
use Rattle.spa_value.specs.declared.value.Value.TheVariants as V
use Rattle.spa_value.specs.View.{view}
use Rattle.spa_value.specs.Views.{property_view, property_views}
use Rattle.spa_value.proofs.ViewLaws.{view-fields, property_views-at, property_views-take_more}
use Rattle.spa_write.specs.Measured.{IsMeasured, PropertiesAreMeasured, PropertiesAreTooLarge, PropertiesAreWritable, RefusesTree}
use Rattle.spa_format.proofs.Encodings.{key_words, length-encoded_pod, property_encoding, two_words_length, whole_properties, length-object, property_encodings-join}
use Rattle.spa_bodies.proofs.Frames.{size_refused}
use Rattle.spa_bodies.proofs.SinkRefusals.{unwritable_through}

-- the tree of an object, from its properties as a slice
pub object_of : (o : Object) {v : Value} {slice : List Property} → v ≡ V.Object o → slice ≡ (out-Object o).properties.items →
    view v ≡ object (out-Object o).type_ (out-Object o).id (property_views slice)
object_of o is same =
    let f = out-Object o in
    ap view is ∙ view-fields o ∙ ap (λ l. object f.type_ f.id (property_views l)) (sym same)

-- Two lists behind one another.

typed_join : (ps qs : Properties) → AllPropertiesTyped ps → AllPropertiesTyped qs →
    AllPropertiesTyped (join_properties ps qs)
typed_join no_properties qs h k = k
typed_join (property a b v ps) qs h k = (h.0, h.1, h.2, typed_join ps qs h.3 k)

nul_join : (ps qs : Properties) → ¬ (SomeValueHasNul ps) → ¬ (SomeValueHasNul qs) →
    ¬ (SomeValueHasNul (join_properties ps qs))
nul_join no_properties qs h k n = k n
nul_join (property a b v ps) qs h k n = ⊎_elim (λ x. h (inl x)) (nul_join ps qs (λ x. h (inr x)) k) n

large_join : (ps qs : Properties) → ¬ (SomeValueTooLarge ps) → ¬ (SomeValueTooLarge qs) →
    ¬ (SomeValueTooLarge (join_properties ps qs))
large_join no_properties qs h k n = k n
large_join (property a b v ps) qs h k n =
    ⊎_elim (λ x. h (inl x)) (large_join ps qs (λ x. h (inr x)) k) n

nul_behind : (ps qs : Properties) → SomeValueHasNul qs → SomeValueHasNul (join_properties ps qs)
nul_behind no_properties qs h = h
nul_behind (property a b v ps) qs h = inr (nul_behind ps qs h)

large_behind : (ps qs : Properties) → SomeValueTooLarge qs → SomeValueTooLarge (join_properties ps qs)
large_behind no_properties qs h = h
large_behind (property a b v ps) qs h = inr (large_behind ps qs h)

-- One property of a list.

-- its key and flags, and its value's encoding
abbrev pub keyed_encoding : Property → List ℕ
keyed_encoding p = key_words p.key p.flags.0 ++ encoding_of (view p.value)

-- the others behind it
abbrev rest_of : Property → Properties → Properties
rest_of p qs = property p.key p.flags.0 (view p.value) qs

-- those before it, its own bytes, and those of the others
pub properties_cut : (ps : List Property) (i : ℕ) (p : Property) → i < length ps → p ≡ get_or ps i p →
    property_encodings (property_views ps) ≡ property_encodings (property_views (take i ps)) ++ (keyed_encoding p ++ property_encodings (property_views (drop (i + 1) ps)))
properties_cut ps i p l e =
    let first = property_views (take i ps) in
    let behind = property_views (drop (i + 1) ps) in
    ap property_encodings (property_views-at ps i p l e)
    ∙ property_encodings-join first (rest_of p behind)
    ∙ ap (λ x. property_encodings first ++ x) (property_encoding p.key p.flags.0 (view p.value) behind)

-- the bytes up to it
pub properties_next : (ps : List Property) (i : ℕ) (p : Property) → i < length ps → p ≡ get_or ps i p →
    property_encodings (property_views (take (i + 1) ps)) ≡ property_encodings (property_views (take i ps)) ++ keyed_encoding p
properties_next ps i p l e =
    let first = property_views (take i ps) in
    ap property_encodings (property_views-take_more ps i p l e)
    ∙ property_encodings-join first (property_view p)
    ∙ ap (λ x. property_encodings first ++ x)
    (property_encoding p.key p.flags.0 (view p.value) no_properties ∙ append-nil (keyed_encoding p))

pub properties_next_typed : (ps : List Property) (i : ℕ) (p : Property) → i < length ps → p ≡ get_or ps i p →
    p.key < 2 ^ 32 → p.flags.0 < 2 ^ 32 → AllPropertiesTyped (property_views (take i ps)) →
    IsTyped (view p.value) → AllPropertiesTyped (property_views (take (i + 1) ps))
properties_next_typed ps i p l e kf ff h k =
    subst AllPropertiesTyped (sym (property_views-take_more ps i p l e))
    (typed_join (property_views (take i ps)) (property_view p) h (kf, ff, k, tt))

-- how many bytes they have
pub length-keyed : (p : Property) → length (keyed_encoding p) ≡ 8 + length (encoding_of (view p.value))
length-keyed p =
    omega (
      arith,
      length-append (key_words p.key p.flags.0) (encoding_of (view p.value)),
      two_words_length p.key p.flags.0,
    )

pub properties_length : (ps : List Property) (i : ℕ) (p : Property) → i < length ps → p ≡ get_or ps i p →
    length (property_encodings (property_views ps)) ≡ length (property_encodings (property_views (take i ps))) + (8 + length (encoding_of (view p.value))) + length (property_encodings (property_views (drop (i + 1) ps)))
properties_length ps i p l e =
    let before = property_encodings (property_views (take i ps)) in
    let behind = property_encodings (property_views (drop (i + 1) ps)) in
    omega (
      arith,
      ap length (properties_cut ps i p l e),
      length-append before (keyed_encoding p ++ behind),
      length-append (keyed_encoding p) behind,
      length-keyed p,
    )

pub property_writable_there : (ps : List Property) (i : ℕ) (p : Property) → i < length ps → p ≡ get_or ps i p →
    PropertiesAreWritable (property_views ps) → IsWritable (view p.value)
property_writable_there ps i p l e w =
    let first = property_views (take i ps) in
    let rest = rest_of p (property_views (drop (i + 1) ps)) in
    let at = property_views-at ps i p l e in
    record {
      no_nul = λ n. w.no_nul (subst SomeValueHasNul (sym at) (nul_behind first rest (inl n)));
      fits = λ n. w.fits (subst SomeValueTooLarge (sym at) (large_behind first rest (inl n)));
    }

-- Measured one by one.

pub properties_measured_none : PropertiesAreMeasured no_properties 0
properties_measured_none = record {
  size = refl;
  writable = record { short = omega arith; no_nul = λ n. n; fits = λ n. n };
}

pub properties_measured_next : (ps : List Property) (i : ℕ) (p : Property) (n m k : ℕ) → i < length ps →
    p ≡ get_or ps i p → PropertiesAreMeasured (property_views (take i ps)) n → IsMeasured (view p.value) m →
    k ≡ n + 8 + m → k < size_limit → PropertiesAreMeasured (property_views (take (i + 1) ps)) k
properties_measured_next ps i p n m k l e h w sum short =
    let first = property_views (take i ps) in
    let last = property_view p in
    let more = property_views-take_more ps i p l e in
    let size : k ≡ length (property_encodings (property_views (take (i + 1) ps))) =
    omega (arith, sum, h.size, w.size, ap length (properties_next ps i p l e), length-append (property_encodings first) (keyed_encoding p), length-keyed p) in
    let nul : ¬ (SomeValueHasNul (join_properties first last)) =
    nul_join first last h.writable.no_nul (⊎_elim w.writable.no_nul (λ x. x)) in
    let large : ¬ (SomeValueTooLarge (join_properties first last)) =
    large_join first last h.writable.fits (⊎_elim w.writable.fits (λ x. x)) in
    record {
      size = size;
      writable = record {
        short = omega (arith, size, short);
        no_nul = λ x. nul (subst SomeValueHasNul more x);
        fits = λ x. large (subst SomeValueTooLarge more x);
      };
    }

-- the refusal of one
pub property_unwritable : (ps : List Property) (i : ℕ) (p : Property) → i < length ps → p ≡ get_or ps i p →
    (e : GenError) → RefusesTree (view p.value) e →
    RefusesWrite (SomeValueHasNul (property_views ps)) (PropertiesAreTooLarge (property_views ps)) (λ _. ⊥) e
property_unwritable ps i p l e x r =
    let first = property_views (take i ps) in
    let rest = rest_of p (property_views (drop (i + 1) ps)) in
    let at = property_views-at ps i p l e in
    unwritable_through (λ n. subst SomeValueHasNul (sym at) (nul_behind first rest (inl n)))
    (λ n. inr (subst SomeValueTooLarge (sym at) (large_behind first rest (inl n)))) x r

-- the refusal of the sum
pub properties_too_long : (ps : List Property) (i : ℕ) (p : Property) (n big : ℕ) → i < length ps →
    p ≡ get_or ps i p → PropertiesAreMeasured (property_views (take i ps)) n →
    big ≤ n + 8 + length (encoding_of (view p.value)) → (e : GenError) → (e ≡ TooLarge) × (size_limit ≤ big) →
    RefusesWrite (SomeValueHasNul (property_views ps)) (PropertiesAreTooLarge (property_views ps)) (λ _. ⊥) e
properties_too_long ps i p n big l e h le x r =
    size_refused (SomeValueHasNul (property_views ps)) (PropertiesAreTooLarge (property_views ps)) (λ _. ⊥) (size_limit ≤ big)
    (λ b. inl (omega (arith, b, le, h.size, properties_length ps i p l e))) x r

-- Objects.

-- an object of measured properties
pub object_measured : (v : Tree) (t i : ℕ) (ps : Properties) (n k : ℕ) → v ≡ object t i ps →
    PropertiesAreMeasured ps n → k ≡ header_size + n → k < size_limit → IsMeasured v (header_size + k)
object_measured v t i ps n k is h sum short =
    let body = length-object t i ps in
    let whole = whole_properties ps in
    let frame = length-encoded_pod object_type (encoded_body (object t i ps)) in
    subst (λ w. IsMeasured w (header_size + k)) (sym is) (record {
      size = omega (arith, h.size, sum, body, whole, frame);
      writable = record {
        no_nul = h.writable.no_nul;
        fits = ⊎_elim (λ x. omega (arith, x, h.size, sum, short, body)) h.writable.fits;
      };
    })

-- the refusal of its properties
pub object_unwritable : (v : Tree) (t i : ℕ) (ps : Properties) → v ≡ object t i ps → (e : GenError) →
    RefusesWrite (SomeValueHasNul ps) (PropertiesAreTooLarge ps) (λ _. ⊥) e →
    RefusesTree v e
object_unwritable v t i ps is e r =
    let body = length-object t i ps in
    subst (λ w. RefusesTree w e) (sym is)
    (unwritable_through {nul' = SomeValueHasNul ps} {large' = IsTooLarge (object t i ps)} (λ n. n) (⊎_elim (λ n. inl (omega (arith, n, body))) inr) e r)

-- the refusal of its size
pub object_too_long : (v : Tree) (t i : ℕ) (ps : Properties) (n : ℕ) → v ≡ object t i ps →
    PropertiesAreMeasured ps n → (e : GenError) → (e ≡ TooLarge) × (size_limit ≤ header_size + n) →
    RefusesTree v e
object_too_long v t i ps n is h e r =
    let body = length-object t i ps in
    subst (λ w. RefusesTree w e) (sym is)
    (size_refused (SomeValueHasNul ps) (IsTooLarge (object t i ps)) (λ _. ⊥) (size_limit ≤ header_size + n)
    (λ b. inl (omega (arith, b, h.size, body))) e r)

pub not_long : (n m : ℕ) → ¬ (m ≤ n) → n < m
not_long n m h = grind (arith, h)

-- the properties of an object that can be written
pub properties_of_writable : (v : Tree) (t i : ℕ) (ps : Properties) → v ≡ object t i ps → IsWritable v →
    PropertiesAreWritable ps
properties_of_writable v t i ps is w =
    let o = subst IsWritable is w in
    let body = length-object t i ps in
    record {
      short = not_long _ _ (λ n. o.fits (inl (omega (arith, n, body))));
      no_nul = o.no_nul;
      fits = λ n. o.fits (inr n);
    }
