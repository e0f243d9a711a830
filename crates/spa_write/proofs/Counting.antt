-- How many values a list has in it, and how many bytes they have at least.
use Rattle.std.proofs.Common.{◌≡◌, ℕ, ◌+◌, ◌*◌, ◌<◌, ◌≤◌, List, length, take, drop, get_or, Option, Some, None, IfSome, Bool, true, false, ap, ◌∙◌, arith, length-append}
use Rattle.std.specs.Prelude.{IfNone, is_some, not}
use Rattle.spa_format.specs.Tree.{Tree, fixed, string, bytes, bitmap, array, choice, pointer, struct, object, struct_type, object_type, Trees, no_trees, member, Properties, no_properties, property, type_of, join_members, join_properties, node_count, member_node_count, property_node_count}
use Rattle.spa_format.specs.Encoding.{encoded_body, encoding_of, member_encodings, property_encodings}
use Rattle.spa_value.specs.declared.value.Value.{Value}
use Rattle.spa_value.specs.declared.object.Property.{Property}
use Rattle.spa_value.specs.View.{view}
use Rattle.spa_value.specs.Views.{views, property_views}
use Rattle.spa_value.proofs.ViewLaws.{views-at, views-take_more, property_views-at, property_views-take_more}
use Rattle.spa_format.proofs.Encodings.{header_within, length-encoded_pod, length-property_encoding, length-object}

-- Lists behind one another.

pub count_join : (vs ws : Trees) →
    member_node_count (join_members vs ws) ≡ member_node_count vs + member_node_count ws
count_join no_trees ws = omega arith
count_join (member v vs) ws = let e = count_join vs ws in omega (arith, e)

pub property_count_join : (ps qs : Properties) →
    property_node_count (join_properties ps qs) ≡ property_node_count ps + property_node_count qs
property_count_join no_properties qs = omega arith
property_count_join (property k f v ps) qs = let e = property_count_join ps qs in omega (arith, e)

pub count_at : (vs : List Value) (i : ℕ) (v : Value) → i < length vs → v ≡ get_or vs i v →
    member_node_count (views vs) ≡ member_node_count (views (take i vs)) + (node_count (view v) + member_node_count (views (drop (i + 1) vs)))
count_at vs i v l e =
    ap member_node_count (views-at vs i v l e) ∙ count_join (views (take i vs)) (member (view v) (views (drop (i + 1) vs)))

pub count_next : (vs : List Value) (i : ℕ) (v : Value) → i < length vs → v ≡ get_or vs i v →
    member_node_count (views (take (i + 1) vs)) ≡ member_node_count (views (take i vs)) + node_count (view v)
count_next vs i v l e =
    let a = ap member_node_count (views-take_more vs i v l e) in
    let b = count_join (views (take i vs)) (member (view v) no_trees) in
    omega (arith, a, b)

pub property_count_at : (ps : List Property) (i : ℕ) (p : Property) → i < length ps → p ≡ get_or ps i p →
    property_node_count (property_views ps) ≡ property_node_count (property_views (take i ps)) + (node_count (view p.value) + property_node_count (property_views (drop (i + 1) ps)))
property_count_at ps i p l e =
    ap property_node_count (property_views-at ps i p l e)
    ∙ property_count_join (property_views (take i ps)) (property p.key p.flags.0 (view p.value) (property_views (drop (i + 1) ps)))

pub property_count_next : (ps : List Property) (i : ℕ) (p : Property) → i < length ps → p ≡ get_or ps i p →
    property_node_count (property_views (take (i + 1) ps)) ≡ property_node_count (property_views (take i ps)) + node_count (view p.value)
property_count_next ps i p l e =
    let a = ap property_node_count (property_views-take_more ps i p l e) in
    let b = property_count_join (property_views (take i ps)) (property p.key p.flags.0 (view p.value) no_properties) in
    omega (arith, a, b)

-- A struct or an object, from the values in it.

pub whole_left : (r : Option ℕ) (number left count : ℕ) (v : Tree) → node_count v ≡ 1 + count → number ≡ left + 1 →
    IfSome r (λ n. left ≡ n + count) → IfSome r (λ n. number ≡ n + node_count v)
whole_left None number left count v e f h = tt
whole_left (Some n) number left count v e f h = omega (arith, e, f, h)

pub whole_more : (r : Option ℕ) (number left count : ℕ) (v : Tree) → node_count v ≡ 1 + count → number ≡ left + 1 →
    IfNone r (left < count) → IfNone r (number < node_count v)
whole_more None number left count v e f h = omega (arith, e, f, h)
whole_more (Some n) number left count v e f h = tt

-- more are counted than this number
pub passed_bound : (number count : ℕ) (r : Option ℕ) (b : Bool) → is_some r ≡ not b → IfNone r (number < count) →
    b ≡ true → number < count
passed_bound number count None b e h t = h
passed_bound number count (Some x) b e h t =
    let w : true ≡ false = e ∙ ap not t in
    absurd (cc)

-- Each has a header of eight bytes at least.
mutual
  pub eight_each : (v : Tree) → 8 * node_count v ≤ length (encoding_of v)
  eight_each (fixed x) = let h = header_within (type_of (fixed x)) (encoded_body (fixed x)) in omega (arith, h)
  eight_each (string s) = let h = header_within (type_of (string s)) (encoded_body (string s)) in omega (arith, h)
  eight_each (bytes s) = let h = header_within (type_of (bytes s)) (encoded_body (bytes s)) in omega (arith, h)
  eight_each (bitmap s) = let h = header_within (type_of (bitmap s)) (encoded_body (bitmap s)) in omega (arith, h)
  eight_each (array k xs) = let h = header_within (type_of (array k xs)) (encoded_body (array k xs)) in omega (arith, h)
  eight_each (choice s f k x xs) =
      let h = header_within (type_of (choice s f k x xs)) (encoded_body (choice s f k x xs)) in omega (arith, h)
  eight_each (pointer t a) = let h = header_within (type_of (pointer t a)) (encoded_body (pointer t a)) in omega (arith, h)
  eight_each (struct vs) =
      let h = length-encoded_pod struct_type (member_encodings vs) in
      let inside = members_eight_each vs in
      omega (arith, h, inside)
  eight_each (object t i ps) =
      let h = length-encoded_pod object_type (encoded_body (object t i ps)) in
      let body = length-object t i ps in
      let inside = properties_eight_each ps in
      omega (arith, h, body, inside)

  pub members_eight_each : (vs : Trees) → 8 * member_node_count vs ≤ length (member_encodings vs)
  members_eight_each no_trees = omega arith
  members_eight_each (member v vs) =
      let one = eight_each v in
      let others = members_eight_each vs in
      let size = length-append (encoding_of v) (member_encodings vs) in
      omega (arith, one, others, size)

  pub properties_eight_each : (ps : Properties) → 8 * property_node_count ps ≤ length (property_encodings ps)
  properties_eight_each no_properties = omega arith
  properties_eight_each (property k f v ps) =
      let one = eight_each v in
      let others = properties_eight_each ps in
      let size = length-property_encoding k f v ps in
      omega (arith, one, others, size)
