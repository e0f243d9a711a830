use Rattle.std.proofs.Common.{◌≡◌, ◌∙◌, ◌+◌, ◌-◌, ◌*◌, ◌<◌, ◌^◌, ◌++◌, IfSome, ap, sym, subst, arith, length, refl, rules, take}
use Rattle.std.proofs.lemmas.Result.{IfErr-weaker, on_ok_weaker}
use Rattle.spa_bytes.proofs.Passing.{passed_on}
use Rattle.spa_format.specs.Tree.{struct, struct_type, object_type}
use Rattle.spa_format.specs.Encoding.{encoding_of, member_encodings, property_encodings}
use Rattle.spa_format.specs.Words.{word_bytes}
use Rattle.spa_format.specs.Writable.{IsWritable}
use Rattle.spa_value.specs.declared.object.Object.{out-Object}
use Rattle.spa_value.specs.View.{view}
use Rattle.spa_value.specs.Views.{views, property_views}
use Rattle.spa_write.specs.Measured.{ArePropertiesPut, PropertiesAreWritable}
use Rattle.spa_write.proofs.LoneStructs.{begun_stops, left_stops, lone_length, next_begun}
use Rattle.spa_write.proofs.MemberLists.{members_length, only_encoding, writable_there, struct_of}
use Rattle.spa_write.proofs.PropertyLists.{properties_length, properties_of_writable, property_writable_there, object_of}
use Rattle.spa_write.proofs.Stopping.{body_stops, four_stop, head_stops, keyed_at, keyed_pod_at, keyed_pod_stop, member_known, next_key_stops, next_keyed_put, next_keyed_stops, next_property_put, next_put, next_stops, next_value_stops, no_property_put, none_put, object_fits, object_head, object_put, size_of_object, size_of_struct, struct_fits, struct_head, struct_put, property_known, two_stop_at}
use Rattle.spa_bodies.proofs.Parts.{TakesParts, two_stop}
use Rattle.spa_write.proofs.sized.+put.Given.{Over}
use Rattle.spa_write.proofs.sized.+put.Goals.{put_properties-in-Some+in_ok-put_keyed-in-Some, put_properties-in-None+in_ok-put_two-in-None+in_ok-put_value-in-None}
use Rattle.spa_write.proofs.sized.+put.Goals as goal

parts_of : (g : Over) → TakesParts g.S.PodSink.appends g.S.PodSink.refuses
parts_of g = record {
  more = g.met.S.PodSink.appends_more;
  after = g.met.S.PodSink.refuses_after;
  longer = g.met.S.PodSink.refuses_longer;
}

pub put_value-overflow_sub-size : goal.put_value-overflow_sub-size
put_value-overflow_sub-size g t c =
    let is = struct_of c.in-Struct.members c.in-Struct.is refl in
    let n = size_of_struct (view c.args.value.now) (views c.in-Struct.members.items) c.len_of.result is c.len_of.ensures in
    omega (arith, n)

pub put_value-overflow_cast-size : goal.put_value-overflow_cast-size
put_value-overflow_cast-size g t c =
    let is = struct_of c.in-Struct.members c.in-Struct.is refl in
    let n = size_of_struct (view c.args.value.now) (views c.in-Struct.members.items) c.len_of.result is c.len_of.ensures in
    let f = struct_fits (views c.in-Struct.members.items) (subst IsWritable is c.requires.writable) in
    omega (arith, n, f)

pub put_value-returns-in_err-put_two-in-Struct-clause-stops :
    goal.put_value-returns-in_err-put_two-in-Struct-clause-stops
put_value-returns-in_err-put_two-in-Struct-clause-stops g t c =
    let is = struct_of c.in-Struct.members c.in-Struct.is refl in
    let k = c.len_of.result - 8 in
    let vs = views c.in-Struct.members.items in
    let h = c.in_err-put_two-in-Struct.ensures in
    passed_on _ _ _ c.from_residual.ensures.1
    (head_stops (parts_of g) c.args.sink.now _ (view c.args.value.now) (word_bytes k ++ word_bytes struct_type) (member_encodings vs)
    (struct_head (view c.args.value.now) vs c.len_of.result k is c.len_of.ensures refl) _
    (two_stop c.args.sink.now _ k struct_type h.begun.0 _ h.begun.1 h.cause))

pub put_value-put_members-requires : goal.put_value-put_members-requires
put_value-put_members-requires g t c =
    let is = struct_of c.in-Struct.members c.in-Struct.is c.as_slice.ensures.value in
    let n = size_of_struct (view c.args.value.now) (views c.as_slice.result.now) c.len_of.result is c.len_of.ensures in
    let writable : IsWritable (struct (views c.as_slice.result.now)) = subst IsWritable is c.requires.writable in
    let size : c.len_of.result - 8 ≡ length (member_encodings (views c.as_slice.result.now)) = omega (arith, n) in
    let known = c.len_of.ensures in
    let smaller : 3 * length (member_encodings (views c.as_slice.result.now)) + 2 < 3 * length (encoding_of (view c.args.value.now)) =
    omega (arith, n, known) in
    λ κs le. (search rules, (le, (writable, size)))

pub put_members-overflow_sub-size : goal.put_members-overflow_sub-size
put_members-overflow_sub-size g t c =
    let whole = lone_length (views c.loop-inner.left.now) (views c.in-Some.inner.now) c.in-Some.ensures in
    omega (arith, whole, c.loop-inner.invariant.size)

pub put_members-returns-in_err-put_two-clause-stops : goal.put_members-returns-in_err-put_two-clause-stops
put_members-returns-in_err-put_two-clause-stops g t c =
    let k = c.loop-inner.size - 8 in
    let h = c.in_err-put_two.ensures in
    passed_on _ _ _ c.from_residual.ensures.1
    (begun_stops (parts_of g) c.args.sink.now c.loop-inner.sink _ (views c.args.members.now) (views c.loop-inner.left.now)
    (views c.in-Some.inner.now) c.loop-inner.size k c.loop-inner.invariant c.in-Some.ensures refl _
    (two_stop c.loop-inner.sink _ k struct_type h.begun.0 _ h.begun.1 h.cause))

pub put_members-loop-inner-smaller : goal.put_members-loop-inner-smaller
put_members-loop-inner-smaller g t c =
    let whole = lone_length (views c.loop-inner.left.now) (views c.in-Some.inner.now) c.in-Some.ensures in
    let smaller : length (member_encodings (views c.in-Some.inner.now)) < length (member_encodings (views c.loop-inner.left.now)) = omega (arith, whole) in
    smaller

pub put_members-loop-inner-preserved : goal.put_members-loop-inner-preserved
put_members-loop-inner-preserved g t c =
    next_begun g.met.S.PodSink.appends_more c.args.sink.now c.loop-inner.sink c.put_two.new.sink (views c.args.members.now)
    (views c.loop-inner.left.now) (views c.in-Some.inner.now) c.loop-inner.size _ c.loop-inner.invariant c.in-Some.ensures refl
    c.in_ok-put_two.ensures.ok

pub put_members-returns-clause-stops : goal.put_members-returns-clause-stops
put_members-returns-clause-stops g t c =
    IfErr-weaker c.put_all.result _ _
    (λ e h. left_stops (parts_of g) c.args.sink.now c.loop-inner.sink c.put_all.new.sink (views c.args.members.now)
    (views c.loop-inner.left.now) c.loop-inner.size c.loop-inner.invariant e h)
    c.put_all.ensures.stops

pub put_all-loop-index-init : goal.put_all-loop-index-init
put_all-loop-index-init g t c = none_put c.args.sink.now

pub put_all-put_value-requires : goal.put_all-put_value-requires
put_all-put_value-requires g t c =
    let v = c.index-members-0.result in
    let one : length c.args.members.now ≡ 1 = search rules in
    let same = only_encoding c.args.members.now v one c.index-members-0.is in
    let writable : IsWritable (view v) =
    writable_there c.args.members.now 0 v (omega (arith, one)) c.index-members-0.is c.requires.writable in
    let known : c.args.size ≡ length (encoding_of (view v)) = c.requires.size ∙ ap length same in
    let all = ap length same in
    let smaller : 3 * length (encoding_of (view v)) < 3 * length (member_encodings (views c.args.members.now)) + 1 = omega (arith, all) in
    λ κs le. (search rules, (le, (writable, known)))

pub put_all-put_value-requires-in-loop-index : goal.put_all-put_value-requires-in-loop-index
put_all-put_value-requires-in-loop-index g t c =
    let v = c.index-members-index.result in
    let writable : IsWritable (view v) =
    writable_there c.args.members.now c.loop-index.index v c.loop-index-test.true c.index-members-index.is c.requires.writable in
    let known : IfSome c.known_at.result (λ n. n ≡ length (encoding_of (view v))) =
    member_known c.args.members.now c.loop-index.index c.largest_member-largest.result v c.args.size c.left_for_member-left.result
    c.known_at.result c.loop-index-test.true c.index-members-index.is c.requires.size c.left_for_member-left.ensures c.known_at.ensures in
    let all = members_length c.args.members.now c.loop-index.index v c.loop-index-test.true c.index-members-index.is in
    let smaller : 3 * length (encoding_of (view v)) < 3 * length (member_encodings (views c.args.members.now)) + 1 = omega (arith, all) in
    λ κs le. (search rules, (le, (writable, known)))

pub put_all-returns-in_err-put_value-clause-stops : goal.put_all-returns-in_err-put_value-clause-stops
put_all-returns-in_err-put_value-clause-stops g t c =
    passed_on _ _ _ c.from_residual.ensures.1
    (next_stops (parts_of g) c.args.sink.now c.loop-index.sink _ c.args.members.now c.loop-index.index c.index-members-index.result
    c.loop-index-test.true c.index-members-index.is c.loop-index.invariant _ c.in_err-put_value.ensures.stops)

pub put_all-loop-index-preserved : goal.put_all-loop-index-preserved
put_all-loop-index-preserved g t c =
    next_put (parts_of g) c.args.sink.now c.loop-index.sink c.put_value-in-loop-index.new.sink c.args.members.now c.loop-index.index
    c.index-members-index.result c.loop-index-test.true c.index-members-index.is c.loop-index.invariant c.in_ok-put_value.ensures.put

pub put_properties-loop-index-init : goal.put_properties-loop-index-init
put_properties-loop-index-init g t c = no_property_put c.args.sink.now

pub put_properties-returns-in_err-put_keyed-in-Some-clause-stops : goal.put_properties-returns-in_err-put_keyed-in-Some-clause-stops
put_properties-returns-in_err-put_keyed-in-Some-clause-stops g t c =
    let p = c.index-properties-index.result in
    let bits : c.bits.result ≡ p.flags.0 = search rules in
    let h = c.in_err-put_keyed-in-Some.ensures in
    passed_on _ _ _ c.from_residual.ensures.1
    (next_keyed_stops (parts_of g) c.args.sink.now c.loop-index.sink _ c.args.properties.now c.loop-index.index p
    c.loop-index-test.true c.index-properties-index.is c.loop-index.invariant _
    (keyed_pod_stop c.loop-index.sink _ p.key p.flags.0 c.bits.result h.begun.0 c.in-Some.pod (encoding_of (view p.value)) _ bits
    c.in-Some.ensures.encoding h.begun.1 h.cause))

pub put_properties-returns-in_err-put_two-in-None-clause-stops : goal.put_properties-returns-in_err-put_two-in-None-clause-stops
put_properties-returns-in_err-put_two-in-None-clause-stops g t c =
    let p = c.index-properties-index.result in
    let bits : c.bits-in-None.result ≡ p.flags.0 = search rules in
    let h = c.in_err-put_two-in-None.ensures in
    passed_on _ _ _ c.from_residual-in_err-put_two-in-None.ensures.1
    (next_key_stops (parts_of g) c.args.sink.now c.loop-index.sink _ c.args.properties.now c.loop-index.index p
    c.loop-index-test.true c.index-properties-index.is c.loop-index.invariant _
    (two_stop_at c.loop-index.sink _ p.key p.flags.0 c.bits-in-None.result h.begun.0 _ bits h.begun.1 h.cause))

pub put_properties-put_value-requires : goal.put_properties-put_value-requires
put_properties-put_value-requires g t c =
    let p = c.index-properties-index.result in
    let writable : IsWritable (view p.value) =
    property_writable_there c.args.properties.now c.loop-index.index p c.loop-index-test.true c.index-properties-index.is
    c.requires.writable in
    let known : IfSome c.known_at-known.result (λ n. n ≡ length (encoding_of (view p.value))) =
    property_known c.args.properties.now c.loop-index.index c.largest_property-largest.result p c.args.size c.left_for_property-left.result
    c.known_at-known.result c.loop-index-test.true c.index-properties-index.is c.requires.size c.left_for_property-left.ensures
    c.known_at-known.ensures in
    let all = properties_length c.args.properties.now c.loop-index.index p c.loop-index-test.true c.index-properties-index.is in
    let smaller : 3 * length (encoding_of (view p.value)) < 3 * length (property_encodings (property_views c.args.properties.now)) + 1 = omega (arith, all) in
    λ κs le. (search rules, (le, (writable, known)))

pub put_properties-returns-in_err-put_value-in-None-clause-stops : goal.put_properties-returns-in_err-put_value-in-None-clause-stops
put_properties-returns-in_err-put_value-in-None-clause-stops g t c =
    let p = c.index-properties-index.result in
    let bits : c.bits-in-None.result ≡ p.flags.0 = search rules in
    passed_on _ _ _ c.from_residual-in_err-put_value-in-None.ensures.1
    (next_value_stops (parts_of g) c.args.sink.now c.loop-index.sink c.put_two.new.sink _ c.args.properties.now c.loop-index.index p
    c.loop-index-test.true c.index-properties-index.is c.loop-index.invariant
    (keyed_at g.S.PodSink.appends c.loop-index.sink c.put_two.new.sink p.key p.flags.0 c.bits-in-None.result bits c.in_ok-put_two-in-None.ensures.ok) _
    c.in_err-put_value-in-None.ensures.stops)

pub put_properties-loop-index-preserved : goal.put_properties-loop-index-preserved
put_properties-loop-index-preserved g t c =
    let ps = c.args.properties.now in
    let i = c.loop-index.index in
    let p = c.index-properties-index.result in
    let kf : p.key < 2 ^ 32 = search rules in
    let ff : p.flags.0 < 2 ^ 32 = search rules in
    elim c.match-short_encoding.branch [
      | put_properties-in-Some+in_ok-put_keyed-in-Some w ↦
          let bits : w.bits.result ≡ p.flags.0 = search rules in
          let own =
          keyed_pod_at g.S.PodSink.appends c.loop-index.sink w.put_keyed.new.sink p.key p.flags.0 w.bits.result w.in-Some.pod
          (encoding_of (view p.value)) bits w.in-Some.ensures.encoding w.in_ok-put_keyed-in-Some.ensures.ok in
          subst (λ s. ArePropertiesPut g.S.PodSink.appends c.args.sink.now (property_views (take (i + 1) ps)) s) (sym w.sink-is)
          (next_keyed_put (parts_of g) c.args.sink.now c.loop-index.sink w.put_keyed.new.sink ps i p c.loop-index-test.true
          c.index-properties-index.is kf ff c.loop-index.invariant own w.in-Some.ensures.typed)
      | put_properties-in-None+in_ok-put_two-in-None+in_ok-put_value-in-None w ↦
          let bits : w.bits-in-None.result ≡ p.flags.0 = search rules in
          subst (λ s. ArePropertiesPut g.S.PodSink.appends c.args.sink.now (property_views (take (i + 1) ps)) s) (sym w.sink-is)
          (next_property_put (parts_of g) c.args.sink.now c.loop-index.sink w.put_two.new.sink w.put_value.new.sink ps i p
          c.loop-index-test.true c.index-properties-index.is kf ff c.loop-index.invariant
          (keyed_at g.S.PodSink.appends c.loop-index.sink w.put_two.new.sink p.key p.flags.0 w.bits-in-None.result bits w.in_ok-put_two-in-None.ensures.ok)
          w.in_ok-put_value-in-None.ensures.put)
    ]

pub put_value-overflow_sub-size-in-Object : goal.put_value-overflow_sub-size-in-Object
put_value-overflow_sub-size-in-Object g t c =
    let o = out-Object c.in-Object.object in
    let is = object_of c.in-Object.object c.in-Object.is refl in
    let n = size_of_object (view c.args.value.now) o.type_ o.id (property_views o.properties.items) c.len_of-in-Object.result is c.len_of-in-Object.ensures in
    omega (arith, n)

pub put_value-overflow_cast-size-in-Object : goal.put_value-overflow_cast-size-in-Object
put_value-overflow_cast-size-in-Object g t c =
    let o = out-Object c.in-Object.object in
    let is = object_of c.in-Object.object c.in-Object.is refl in
    let n = size_of_object (view c.args.value.now) o.type_ o.id (property_views o.properties.items) c.len_of-in-Object.result is c.len_of-in-Object.ensures in
    let f = object_fits o.type_ o.id (property_views o.properties.items) (subst IsWritable is c.requires.writable) in
    omega (arith, n, f)

pub put_value-overflow_sub-size-in-Object-2 : goal.put_value-overflow_sub-size-in-Object-2
put_value-overflow_sub-size-in-Object-2 g t c =
    let o = out-Object c.in-Object.object in
    let is = object_of c.in-Object.object c.in-Object.is refl in
    let n = size_of_object (view c.args.value.now) o.type_ o.id (property_views o.properties.items) c.len_of-in-Object.result is c.len_of-in-Object.ensures in
    omega (arith, n)

pub put_value-returns-in_err-put_four-in-Object-clause-stops : goal.put_value-returns-in_err-put_four-in-Object-clause-stops
put_value-returns-in_err-put_four-in-Object-clause-stops g t c =
    let o = out-Object c.in-Object.object in
    let is = object_of c.in-Object.object c.in-Object.is refl in
    let k = c.len_of-in-Object.result - 8 in
    let ps = property_views o.properties.items in
    let h = c.in_err-put_four-in-Object.ensures in
    passed_on _ _ _ c.from_residual-in_err-put_four-in-Object.ensures.1
    (head_stops (parts_of g) c.args.sink.now _ (view c.args.value.now)
    ((word_bytes k ++ word_bytes object_type) ++ (word_bytes o.type_ ++ word_bytes o.id)) (property_encodings ps)
    (object_head (view c.args.value.now) o.type_ o.id ps c.len_of-in-Object.result k is c.len_of-in-Object.ensures refl) _
    (four_stop c.args.sink.now _ k object_type o.type_ o.id h.begun.0 _ h.begun.1 h.cause))

pub put_value-put_properties-requires : goal.put_value-put_properties-requires
put_value-put_properties-requires g t c =
    let o = out-Object c.in-Object.object in
    let is = object_of c.in-Object.object c.in-Object.is c.as_slice-in-Object.ensures.value in
    let ps = property_views c.as_slice-in-Object.result.now in
    let n = size_of_object (view c.args.value.now) o.type_ o.id ps c.len_of-in-Object.result is c.len_of-in-Object.ensures in
    let writable : PropertiesAreWritable (property_views c.as_slice-in-Object.result.now) =
    properties_of_writable (view c.args.value.now) o.type_ o.id ps is c.requires.writable in
    let size : c.len_of-in-Object.result - 8 - 8 ≡ length (property_encodings (property_views c.as_slice-in-Object.result.now)) = omega (arith, n) in
    let known = c.len_of-in-Object.ensures in
    let smaller : 3 * length (property_encodings (property_views c.as_slice-in-Object.result.now)) + 1 < 3 * length (encoding_of (view c.args.value.now)) =
    omega (arith, n, known) in
    λ κs le. (search rules, (le, (writable, size)))

pub put_value-returns-in_ok-put_four-in-Object-clause-put : goal.put_value-returns-in_ok-put_four-in-Object-clause-put
put_value-returns-in_ok-put_four-in-Object-clause-put g t c =
    let o = out-Object c.in-Object.object in
    let is = object_of c.in-Object.object c.in-Object.is c.as_slice-in-Object.ensures.value in
    let within = c.put_four.ensures.within in
    let k = c.len_of-in-Object.result - 8 in
    on_ok_weaker c.put_properties.result
    (λ h. object_put g.met.S.PodSink.appends_more c.args.sink.now c.put_four.new.sink c.put_properties.new.sink (view c.args.value.now)
    o.type_ o.id (property_views c.as_slice-in-Object.result.now) c.len_of-in-Object.result k within.0 within.1 is c.len_of-in-Object.ensures refl
    c.requires.writable c.in_ok-put_four-in-Object.ensures.ok h)
    c.put_properties.ensures.put

pub put_value-returns-in_ok-put_four-in-Object-clause-stops : goal.put_value-returns-in_ok-put_four-in-Object-clause-stops
put_value-returns-in_ok-put_four-in-Object-clause-stops g t c =
    let o = out-Object c.in-Object.object in
    let is = object_of c.in-Object.object c.in-Object.is c.as_slice-in-Object.ensures.value in
    let k = c.len_of-in-Object.result - 8 in
    let ps = property_views c.as_slice-in-Object.result.now in
    IfErr-weaker c.put_properties.result _ _
    (λ e h. body_stops (parts_of g) c.args.sink.now c.put_four.new.sink c.put_properties.new.sink (view c.args.value.now)
    ((word_bytes k ++ word_bytes object_type) ++ (word_bytes o.type_ ++ word_bytes o.id)) (property_encodings ps)
    (object_head (view c.args.value.now) o.type_ o.id ps c.len_of-in-Object.result k is c.len_of-in-Object.ensures refl)
    c.in_ok-put_four-in-Object.ensures.ok e h)
    c.put_properties.ensures.stops

pub put_value-returns-in_ok-put_two-in-Struct-clause-put :
    goal.put_value-returns-in_ok-put_two-in-Struct-clause-put
put_value-returns-in_ok-put_two-in-Struct-clause-put g t c =
    let is = struct_of c.in-Struct.members c.in-Struct.is c.as_slice.ensures.value in
    let k = c.len_of.result - 8 in
    on_ok_weaker c.put_members.result
    (λ h. struct_put g.met.S.PodSink.appends_more c.args.sink.now c.put_two.new.sink c.put_members.new.sink (view c.args.value.now)
    (views c.as_slice.result.now) c.len_of.result k is c.len_of.ensures refl c.requires.writable c.in_ok-put_two-in-Struct.ensures.ok h)
    c.put_members.ensures.put

pub put_value-returns-in_ok-put_two-in-Struct-clause-stops :
    goal.put_value-returns-in_ok-put_two-in-Struct-clause-stops
put_value-returns-in_ok-put_two-in-Struct-clause-stops g t c =
    let is = struct_of c.in-Struct.members c.in-Struct.is c.as_slice.ensures.value in
    let k = c.len_of.result - 8 in
    let vs = views c.as_slice.result.now in
    IfErr-weaker c.put_members.result _ _
    (λ e h. body_stops (parts_of g) c.args.sink.now c.put_two.new.sink c.put_members.new.sink (view c.args.value.now)
    (word_bytes k ++ word_bytes struct_type) (member_encodings vs)
    (struct_head (view c.args.value.now) vs c.len_of.result k is c.len_of.ensures refl) c.in_ok-put_two-in-Struct.ensures.ok e h)
    c.put_members.ensures.stops
