use Rattle.std.proofs.Common.{rules, ◌≡◌, ◌<◌, ◌^◌, ◌∷◌, ◌++◌, ◌∙◌, ap, sym, subst}
use Rattle.spa_bytes.proofs.Passing.{passed_on}
use Rattle.spa_format.specs.Words.{word_bytes}
use Rattle.spa_value.specs.View.{view}
use Rattle.spa_write.specs.Nesting.{StopsAt}
use Rattle.spa_write.specs.declared.left.Left.TheVariants as left
use Rattle.spa_write.proofs.Nesting.{passed_value, properties_none, properties_passed, stops_property, value_refused}
use Rattle.spa_write.proofs.nested.put_properties.Goals as goal

pub loop-property-init : goal.loop-property-init
loop-property-init c = properties_none c.args.properties.now c.args.out.now.items

pub loop-property-preserved : goal.loop-property-preserved
loop-property-preserved c =
    let p = c.in-Some.property.now in
    let first : c.loop-property.left.now ≡ p ∷ c.in-Some.behind.now = search rules in
    let kf : p.key < 2 ^ 32 = search rules in
    let ff : p.flags.0 < 2 ^ 32 = search rules in
    let bits : c.bits.result ≡ p.flags.0 = search rules in
    let now = c.loop-property.out.items in
    let keyed = c.in_ok-put_two.ensures.ok ∙ ap (λ n. now ++ (word_bytes p.key ++ word_bytes n)) bits in
    let stop =
    stops_property c.args.properties c.args.out.now.items now c.put_two.new.sink.items c.loop-property.left.now c.in-Some.behind p kf ff first keyed
    c.loop-property.invariant in
    let put = rw c.in_default-2.is at c.in_ok-nested.ensures.put in
    properties_passed c.args.properties c.in-Some.behind _ _ (passed_value _ _ _ _ _ (view p.value) stop put)

pub returns-in-Some-2-clause-put : goal.returns-in-Some-2-clause-put
returns-in-Some-2-clause-put c =
    let p = c.in-Some.property.now in
    let first : c.loop-property.left.now ≡ p ∷ c.in-Some.behind.now = search rules in
    let kf : p.key < 2 ^ 32 = search rules in
    let ff : p.flags.0 < 2 ^ 32 = search rules in
    let bits : c.bits.result ≡ p.flags.0 = search rules in
    let now = c.loop-property.out.items in
    let keyed = c.in_ok-put_two.ensures.ok ∙ ap (λ n. now ++ (word_bytes p.key ++ word_bytes n)) bits in
    let stop =
    stops_property c.args.properties c.args.out.now.items now c.put_two.new.sink.items c.loop-property.left.now c.in-Some.behind p kf ff first keyed
    c.loop-property.invariant in
    let found = rw c.in-Some-2.is at c.in_ok-nested.ensures.put in
    subst (λ w. StopsAt (left.Properties c.args.properties) c.args.out.now.items w (left.Properties c.in-Some.behind) c.put_or_pass.new.out.items) (sym found.0)
    (subst (λ b. StopsAt (left.Properties c.args.properties) c.args.out.now.items (view p.value) (left.Properties c.in-Some.behind) b) (sym found.1) stop)

pub returns-in_err-nested-clause-refused : goal.returns-in_err-nested-clause-refused
returns-in_err-nested-clause-refused c =
    let p = c.in-Some.property.now in
    let first : c.loop-property.left.now ≡ p ∷ c.in-Some.behind.now = search rules in
    let kf : p.key < 2 ^ 32 = search rules in
    let ff : p.flags.0 < 2 ^ 32 = search rules in
    let bits : c.bits.result ≡ p.flags.0 = search rules in
    let now = c.loop-property.out.items in
    let keyed = c.in_ok-put_two.ensures.ok ∙ ap (λ n. now ++ (word_bytes p.key ++ word_bytes n)) bits in
    let stop =
    stops_property c.args.properties c.args.out.now.items now c.put_two.new.sink.items c.loop-property.left.now c.in-Some.behind p kf ff first keyed
    c.loop-property.invariant in
    passed_on _ _ _ c.from_residual-in_err-nested.ensures.1 (value_refused _ _ _ _ (view p.value) _ stop c.in_err-nested.ensures.refused)
