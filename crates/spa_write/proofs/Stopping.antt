-- What a sink takes of bytes that come in parts, and where it stops.
use Rattle.std.proofs.Common.{◌≡◌, ℕ, ◌+◌, ◌-◌, ◌<◌, ◌^◌, inl, List, ◌++◌, length, take, drop, get_or, Option, Some, None, IfSome, refl, sym, ap, ◌∙◌, subst, arith, append_assoc, length-append}
use Rattle.std.specs.Prelude.{replicate}
use Rattle.std.proofs.lemmas.List.{append-nil}
use Rattle.spa_sink.specs.declared.gen_error.GenError.{GenError}
use Rattle.spa_sink.specs.Writing.{Sent, none_sent, some_sent}
use Rattle.spa_sink.proofs.Sending.{AppendsMore, sent_before, sent_behind}
use Rattle.spa_format.specs.Words.{header_size, padded_size, padding, size_limit, word_bytes}
use Rattle.spa_format.specs.Tree.{Tree, struct, struct_type, object, object_type, Trees, no_trees, Properties, no_properties}
use Rattle.spa_format.specs.Encoding.{encoded_body, encoding_of, member_encodings, property_encodings}
use Rattle.spa_format.specs.Typed.{IsTyped}
use Rattle.spa_format.specs.Writable.{IsWritable}
use Rattle.spa_value.specs.declared.value.Value.{Value}
use Rattle.spa_value.specs.declared.object.Property.{Property}
use Rattle.spa_value.specs.View.{view}
use Rattle.spa_value.specs.Views.{property_views, views}
use Rattle.spa_write.specs.Measured.{ArePropertiesPut, ArePut}
use Rattle.spa_bodies.specs.Written.{Appending, IsPut, Refusing, Stops}
use Rattle.spa_bodies.proofs.Parts.{TakesParts, stop_as, stop_behind, stop_by, stop_first, two_stop}
use Rattle.spa_format.proofs.Encodings.{key_words, length-encoded_pod, two_words_length, whole_members, whole_properties, length-object}
use Rattle.spa_write.proofs.MemberLists.{members_cut, members_length, members_next, members_next_typed}
use Rattle.spa_write.proofs.PropertyLists.{keyed_encoding, not_long, properties_cut, properties_length, properties_next, properties_next_typed}

-- Members.

pub none_put : {S : Type 0} {appends : Appending S} (a : S) → ArePut appends a no_trees a
none_put a = record { encodings = none_sent refl refl; typed = tt }

pub next_put : {S : Type 0} {appends : Appending S} {refuses : Refusing S} → TakesParts appends refuses →
    (a b c : S) (vs : List Value) (i : ℕ) (v : Value) → i < length vs → v ≡ get_or vs i v →
    ArePut appends a (views (take i vs)) b → IsPut appends b (view v) c →
    ArePut appends a (views (take (i + 1) vs)) c
next_put {appends = appends} s a b c vs i v l e h k =
    let first = member_encodings (views (take i vs)) in
    record {
      encodings = some_sent (subst (λ x. appends a x c) (sym (members_next vs i v l e)) (sent_before s.more a b c first (encoding_of (view v)) h.encodings k.encoding));
      typed = members_next_typed vs i v l e h.typed k.typed;
    }

pub next_stops : {S : Type 0} {appends : Appending S} {refuses : Refusing S} → TakesParts appends refuses →
    (a b c : S) (vs : List Value) (i : ℕ) (v : Value) → i < length vs → v ≡ get_or vs i v →
    ArePut appends a (views (take i vs)) b → (e : GenError) →
    Stops appends refuses b (encoding_of (view v)) c e →
    Stops appends refuses a (member_encodings (views vs)) c e
next_stops s a b c vs i v l x h e k =
    let first = member_encodings (views (take i vs)) in
    let rest = member_encodings (views (drop (i + 1) vs)) in
    stop_as a c (first ++ (encoding_of (view v) ++ rest)) (member_encodings (views vs)) e (sym (members_cut vs i v l x))
    (stop_behind s a b c first (encoding_of (view v) ++ rest) e h.encodings (stop_first s b c (encoding_of (view v)) rest e k))

-- Properties.

pub no_property_put : {S : Type 0} {appends : Appending S} (a : S) → ArePropertiesPut appends a no_properties a
no_property_put a = record { encodings = none_sent refl refl; typed = tt }

-- a key, flags and the value at once
pub next_keyed_put : {S : Type 0} {appends : Appending S} {refuses : Refusing S} → TakesParts appends refuses →
    (a b c : S) (ps : List Property) (i : ℕ) (p : Property) → i < length ps → p ≡ get_or ps i p →
    p.key < 2 ^ 32 → p.flags.0 < 2 ^ 32 → ArePropertiesPut appends a (property_views (take i ps)) b →
    appends b (keyed_encoding p) c → IsTyped (view p.value) → ArePropertiesPut appends a (property_views (take (i + 1) ps)) c
next_keyed_put {appends = appends} s a b c ps i p l e kf ff h own typed =
    let first = property_encodings (property_views (take i ps)) in
    record {
      encodings = some_sent (subst (λ x. appends a x c) (sym (properties_next ps i p l e)) (sent_before s.more a b c first (keyed_encoding p) h.encodings own));
      typed = properties_next_typed ps i p l e kf ff h.typed typed;
    }

pub next_property_put : {S : Type 0} {appends : Appending S} {refuses : Refusing S} → TakesParts appends refuses →
    (a b keyed c : S) (ps : List Property) (i : ℕ) (p : Property) → i < length ps → p ≡ get_or ps i p →
    p.key < 2 ^ 32 → p.flags.0 < 2 ^ 32 → ArePropertiesPut appends a (property_views (take i ps)) b →
    appends b (key_words p.key p.flags.0) keyed → IsPut appends keyed (view p.value) c →
    ArePropertiesPut appends a (property_views (take (i + 1) ps)) c
next_property_put s a b keyed c ps i p l e kf ff h w k =
    next_keyed_put s a b c ps i p l e kf ff h
    (s.more b keyed c (key_words p.key p.flags.0) (encoding_of (view p.value)) w k.encoding) k.typed

-- within one of the properties
pub next_keyed_stops : {S : Type 0} {appends : Appending S} {refuses : Refusing S} → TakesParts appends refuses →
    (a b c : S) (ps : List Property) (i : ℕ) (p : Property) → i < length ps → p ≡ get_or ps i p →
    ArePropertiesPut appends a (property_views (take i ps)) b → (e : GenError) →
    Stops appends refuses b (keyed_encoding p) c e →
    Stops appends refuses a (property_encodings (property_views ps)) c e
next_keyed_stops s a b c ps i p l x h e k =
    let first = property_encodings (property_views (take i ps)) in
    let rest = property_encodings (property_views (drop (i + 1) ps)) in
    stop_as a c (first ++ (keyed_encoding p ++ rest)) (property_encodings (property_views ps)) e (sym (properties_cut ps i p l x))
    (stop_behind s a b c first (keyed_encoding p ++ rest) e h.encodings (stop_first s b c (keyed_encoding p) rest e k))

pub next_key_stops : {S : Type 0} {appends : Appending S} {refuses : Refusing S} → TakesParts appends refuses →
    (a b c : S) (ps : List Property) (i : ℕ) (p : Property) → i < length ps → p ≡ get_or ps i p →
    ArePropertiesPut appends a (property_views (take i ps)) b → (e : GenError) →
    Stops appends refuses b (key_words p.key p.flags.0) c e →
    Stops appends refuses a (property_encodings (property_views ps)) c e
next_key_stops s a b c ps i p l x h e k =
    next_keyed_stops s a b c ps i p l x h e
    (stop_first s b c (key_words p.key p.flags.0) (encoding_of (view p.value)) e k)

pub next_value_stops : {S : Type 0} {appends : Appending S} {refuses : Refusing S} → TakesParts appends refuses →
    (a b keyed c : S) (ps : List Property) (i : ℕ) (p : Property) → i < length ps → p ≡ get_or ps i p →
    ArePropertiesPut appends a (property_views (take i ps)) b → appends b (key_words p.key p.flags.0) keyed →
    (e : GenError) → Stops appends refuses keyed (encoding_of (view p.value)) c e →
    Stops appends refuses a (property_encodings (property_views ps)) c e
next_value_stops s a b keyed c ps i p l x h w e k =
    next_keyed_stops s a b c ps i p l x h e
    (stop_behind s b keyed c (key_words p.key p.flags.0) (encoding_of (view p.value)) e (some_sent w) k)

-- Headers.

unpadded : (body : List ℕ) → padded_size (length body) ≡ length body → body ++ padding (length body) ≡ body
unpadded body whole =
    let none : padded_size (length body) - length body ≡ 0 = omega (arith, whole) in
    ap (λ n. body ++ replicate n 0) none ∙ append-nil body

-- the encoding of a struct
pub struct_parts : (n : ℕ) (vs : Trees) → n ≡ length (member_encodings vs) →
    encoding_of (struct vs) ≡ (word_bytes n ++ word_bytes struct_type) ++ member_encodings vs
struct_parts n vs e =
    let body = member_encodings vs in
    ap (λ l. word_bytes (length body) ++ (word_bytes struct_type ++ l)) (unpadded body (whole_members vs))
    ∙ ap (λ k. word_bytes k ++ (word_bytes struct_type ++ body)) (sym e)
    ∙ sym (append_assoc (word_bytes n) (word_bytes struct_type) body)

-- the encoding of an object
pub object_parts : (n t i : ℕ) (ps : Properties) → n ≡ header_size + length (property_encodings ps) →
    encoding_of (object t i ps)
    ≡ ((word_bytes n ++ word_bytes object_type) ++ (word_bytes t ++ word_bytes i)) ++ property_encodings ps
object_parts n t i ps e =
    let body = encoded_body (object t i ps) in
    let size = length-object t i ps in
    let whole : padded_size (length body) ≡ length body = omega (arith, size, whole_properties ps) in
    ap (λ l. word_bytes (length body) ++ (word_bytes object_type ++ l)) (unpadded body whole)
    ∙ ap (λ k. word_bytes k ++ (word_bytes object_type ++ body)) (size ∙ sym e)
    ∙ sym (append_assoc (word_bytes n) (word_bytes object_type) body)
    ∙ ap (λ l. (word_bytes n ++ word_bytes object_type) ++ l) (sym (append_assoc (word_bytes t) (word_bytes i) (property_encodings ps)))
    ∙ sym (append_assoc (word_bytes n ++ word_bytes object_type) (word_bytes t ++ word_bytes i) (property_encodings ps))

-- a header, and what is behind it
pub whole_put : {S : Type 0} {appends : Appending S} → AppendsMore appends → (a b c : S) (v : Tree)
    (head body : List ℕ) → encoding_of v ≡ head ++ body → appends a head b → Sent appends b body c →
    IsTyped v → IsWritable v → IsPut appends a v c
whole_put {appends = appends} more a b c v head body e p q typed writable =
    record {
      encoding = subst (λ l. appends a l c) (sym e) (sent_behind more a b c head body p q);
      typed = typed;
      writable = writable;
    }

pub head_stops : {S : Type 0} {appends : Appending S} {refuses : Refusing S} → TakesParts appends refuses →
    (a c : S) (v : Tree) (head body : List ℕ) → encoding_of v ≡ head ++ body → (e : GenError) →
    Stops appends refuses a head c e → Stops appends refuses a (encoding_of v) c e
head_stops s a c v head body x e h = stop_as a c (head ++ body) (encoding_of v) e (sym x) (stop_first s a c head body e h)

pub body_stops : {S : Type 0} {appends : Appending S} {refuses : Refusing S} → TakesParts appends refuses →
    (a b c : S) (v : Tree) (head body : List ℕ) → encoding_of v ≡ head ++ body → appends a head b →
    (e : GenError) → Stops appends refuses b body c e → Stops appends refuses a (encoding_of v) c e
body_stops s a b c v head body x p e h =
    stop_as a c (head ++ body) (encoding_of v) e (sym x) (stop_behind s a b c head body e (some_sent p) h)

-- the size word of a struct, and of an object
pub size_of_struct : (v : Tree) (vs : Trees) (n : ℕ) → v ≡ struct vs → n ≡ length (encoding_of v) →
    n ≡ header_size + length (member_encodings vs)
size_of_struct v vs n is e =
    e ∙ ap (λ w. length (encoding_of w)) is
    ∙ (let f = length-encoded_pod struct_type (member_encodings vs) in let w = whole_members vs in omega arith)

pub size_of_object : (v : Tree) (t i : ℕ) (ps : Properties) (n : ℕ) → v ≡ object t i ps → n ≡ length (encoding_of v) →
    n ≡ header_size + (header_size + length (property_encodings ps))
size_of_object v t i ps n is e =
    e ∙ ap (λ w. length (encoding_of w)) is
    ∙ (let f = length-encoded_pod object_type (encoded_body (object t i ps)) in
    let w = whole_properties ps in
    let b = length-object t i ps in
    omega arith)

pub struct_fits : (vs : Trees) → IsWritable (struct vs) → length (member_encodings vs) < size_limit
struct_fits vs w = not_long _ _ (λ n. w.fits (inl n))

pub object_fits : (t i : ℕ) (ps : Properties) → IsWritable (object t i ps) →
    header_size + length (property_encodings ps) < size_limit
object_fits t i ps w =
    let b = length-object t i ps in
    not_long _ _ (λ n. w.fits (inl (omega (arith, n, b))))

-- the encoding of a struct of which only the length is known
pub struct_head : (v : Tree) (vs : Trees) (n k : ℕ) → v ≡ struct vs → n ≡ length (encoding_of v) → k ≡ n - 8 →
    encoding_of v ≡ (word_bytes k ++ word_bytes struct_type) ++ member_encodings vs
struct_head v vs n k is e d =
    let size = size_of_struct v vs n is e in
    ap encoding_of is ∙ struct_parts k vs (omega (arith, size, d))

pub object_head : (v : Tree) (t i : ℕ) (ps : Properties) (n k : ℕ) → v ≡ object t i ps →
    n ≡ length (encoding_of v) → k ≡ n - 8 →
    encoding_of v
    ≡ ((word_bytes k ++ word_bytes object_type) ++ (word_bytes t ++ word_bytes i)) ++ property_encodings ps
object_head v t i ps n k is e d =
    let size = size_of_object v t i ps n is e in
    ap encoding_of is ∙ object_parts k t i ps (omega (arith, size, d))

pub struct_put : {S : Type 0} {appends : Appending S} → AppendsMore appends → (a b c : S) (v : Tree) (vs : Trees)
    (n k : ℕ) → v ≡ struct vs → n ≡ length (encoding_of v) → k ≡ n - 8 → IsWritable v →
    appends a (word_bytes k ++ word_bytes struct_type) b → ArePut appends b vs c → IsPut appends a v c
struct_put more a b c v vs n k is e d w p h =
    whole_put more a b c v (word_bytes k ++ word_bytes struct_type) (member_encodings vs) (struct_head v vs n k is e d)
    p h.encodings (subst IsTyped (sym is) h.typed) w

pub object_put : {S : Type 0} {appends : Appending S} → AppendsMore appends → (a b c : S) (v : Tree) (t i : ℕ)
    (ps : Properties) (n k : ℕ) → t < 2 ^ 32 → i < 2 ^ 32 → v ≡ object t i ps → n ≡ length (encoding_of v) →
    k ≡ n - 8 → IsWritable v →
    appends a ((word_bytes k ++ word_bytes object_type) ++ (word_bytes t ++ word_bytes i)) b →
    ArePropertiesPut appends b ps c → IsPut appends a v c
object_put more a b c v t i ps n k tf jf is e d w p h =
    whole_put more a b c v ((word_bytes k ++ word_bytes object_type) ++ (word_bytes t ++ word_bytes i))
    (property_encodings ps) (object_head v t i ps n k is e d) p h.encodings (subst IsTyped (sym is) (tf, jf, h.typed)) w

-- where a sink stops within two words of which the second was read before
pub two_stop_at : {S : Type 0} {appends : Appending S} {refuses : Refusing S} (a c : S) (x y read n : ℕ) (e : GenError) →
    read ≡ y → appends a (take n (word_bytes x ++ word_bytes read)) c → refuses a 8 c e →
    Stops appends refuses a (word_bytes x ++ word_bytes y) c e
two_stop_at {appends = appends} {refuses = refuses} a c x y read n e same p r =
    stop_as a c (word_bytes x ++ word_bytes read) (word_bytes x ++ word_bytes y) e (ap (λ m. word_bytes x ++ word_bytes m) same)
    (two_stop a c x read n e p r)

pub keyed_at : {S : Type 0} (appends : Appending S) (a b : S) (x y read : ℕ) → read ≡ y →
    appends a (word_bytes x ++ word_bytes read) b → appends a (word_bytes x ++ word_bytes y) b
keyed_at appends a b x y read same p = subst (λ m. appends a (word_bytes x ++ word_bytes m) b) same p

-- a key, flags and a pod at once
pub keyed_pod_at : {S : Type 0} (appends : Appending S) (a b : S) (x y read : ℕ) (pod enc : List ℕ) → read ≡ y →
    pod ≡ enc → appends a ((word_bytes x ++ word_bytes read) ++ pod) b →
    appends a ((word_bytes x ++ word_bytes y) ++ enc) b
keyed_pod_at appends a b x y read pod enc same is p =
    subst (λ l. appends a ((word_bytes x ++ word_bytes y) ++ l) b) is
    (subst (λ m. appends a ((word_bytes x ++ word_bytes m) ++ pod) b) same p)

pub keyed_pod_stop : {S : Type 0} {appends : Appending S} {refuses : Refusing S} (a c : S) (x y read n : ℕ)
    (pod enc : List ℕ) (e : GenError) → read ≡ y → pod ≡ enc →
    appends a (take n ((word_bytes x ++ word_bytes read) ++ pod)) c →
    refuses a (length ((word_bytes x ++ word_bytes read) ++ pod)) c e →
    Stops appends refuses a ((word_bytes x ++ word_bytes y) ++ enc) c e
keyed_pod_stop a c x y read n pod enc e same is p r =
    let bytes = (word_bytes x ++ word_bytes read) ++ pod in
    let whole : bytes ≡ (word_bytes x ++ word_bytes y) ++ enc =
    ap (λ m. (word_bytes x ++ word_bytes m) ++ pod) same ∙ ap (λ l. (word_bytes x ++ word_bytes y) ++ l) is in
    stop_as a c bytes ((word_bytes x ++ word_bytes y) ++ enc) e whole (stop_by a c n bytes e p r)

pub four_stop : {S : Type 0} {appends : Appending S} {refuses : Refusing S} (a c : S) (w x y z n : ℕ) (e : GenError) →
    appends a (take n ((word_bytes w ++ word_bytes x) ++ (word_bytes y ++ word_bytes z))) c → refuses a 16 c e →
    Stops appends refuses a ((word_bytes w ++ word_bytes x) ++ (word_bytes y ++ word_bytes z)) c e
four_stop {refuses = refuses} a c w x y z n e p r =
    let size : 16 ≡ length ((word_bytes w ++ word_bytes x) ++ (word_bytes y ++ word_bytes z)) =
    omega (arith, length-append (word_bytes w ++ word_bytes x) (word_bytes y ++ word_bytes z), two_words_length w x, two_words_length y z) in
    stop_by a c n ((word_bytes w ++ word_bytes x) ++ (word_bytes y ++ word_bytes z)) e p (subst (λ m. refuses a m c e) size r)

-- What a refusal is where the value can be written.

-- The length that is known of one value.

pub member_known : (vs : List Value) (i place : ℕ) (v : Value) (size : ℕ) (left known : Option ℕ) → i < length vs →
    v ≡ get_or vs i v → size ≡ length (member_encodings (views vs)) →
    IfSome left (λ n. size ≡ length (member_encodings (views (take place vs))) + n + length (member_encodings (views (drop (place + 1) vs)))) →
    IfSome known (λ n. (i ≡ place) × (left ≡ Some n)) → IfSome known (λ n. n ≡ length (encoding_of (view v)))
member_known vs i place v size left None l e s h k = tt
member_known vs i place v size left (Some n) l e s h k =
    let given : size ≡ length (member_encodings (views (take place vs))) + n + length (member_encodings (views (drop (place + 1) vs))) =
    subst (λ (o : Option ℕ). IfSome o (λ n. size ≡ length (member_encodings (views (take place vs))) + n + length (member_encodings (views (drop (place + 1) vs))))) k.1 h in
    let here : size ≡ length (member_encodings (views (take i vs))) + n + length (member_encodings (views (drop (i + 1) vs))) =
    subst (λ p. size ≡ length (member_encodings (views (take p vs))) + n + length (member_encodings (views (drop (p + 1) vs)))) (sym k.0) given in
    omega (arith, s, here, members_length vs i v l e)

pub property_known : (ps : List Property) (i place : ℕ) (p : Property) (size : ℕ) (left known : Option ℕ) → i < length ps →
    p ≡ get_or ps i p → size ≡ length (property_encodings (property_views ps)) →
    IfSome left (λ n. size ≡ length (property_encodings (property_views (take place ps))) + (header_size + n) + length (property_encodings (property_views (drop (place + 1) ps)))) →
    IfSome known (λ n. (i ≡ place) × (left ≡ Some n)) → IfSome known (λ n. n ≡ length (encoding_of (view p.value)))
property_known ps i place p size left None l e s h k = tt
property_known ps i place p size left (Some n) l e s h k =
    let given : size ≡ length (property_encodings (property_views (take place ps))) + (header_size + n) + length (property_encodings (property_views (drop (place + 1) ps))) =
    subst (λ (o : Option ℕ). IfSome o (λ n. size ≡ length (property_encodings (property_views (take place ps))) + (header_size + n) + length (property_encodings (property_views (drop (place + 1) ps))))) k.1 h in
    let here : size ≡ length (property_encodings (property_views (take i ps))) + (header_size + n) + length (property_encodings (property_views (drop (i + 1) ps))) =
    subst (λ q. size ≡ length (property_encodings (property_views (take q ps))) + (header_size + n) + length (property_encodings (property_views (drop (q + 1) ps)))) (sym k.0) given in
    omega (arith, s, here, properties_length ps i p l e)
