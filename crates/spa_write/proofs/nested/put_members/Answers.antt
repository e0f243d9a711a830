use Rattle.std.proofs.Common.{rules, ◌≡◌, ◌∷◌, sym, subst}
use Rattle.spa_bytes.proofs.Passing.{passed_on}
use Rattle.spa_value.specs.View.{view}
use Rattle.spa_write.specs.Nesting.{StopsAt}
use Rattle.spa_write.specs.declared.left.Left.TheVariants as left
use Rattle.spa_write.proofs.Nesting.{members_none, members_passed, passed_value, stops_member, value_refused}
use Rattle.spa_write.proofs.nested.put_members.Goals as goal

pub loop-member-init : goal.loop-member-init
loop-member-init c = members_none c.args.members.now c.args.out.now.items

pub loop-member-preserved : goal.loop-member-preserved
loop-member-preserved c =
    let v = c.in-Some.member.now in
    let first : c.loop-member.left.now ≡ v ∷ c.in-Some.behind.now = search rules in
    let stop =
    stops_member c.args.members c.args.out.now.items c.loop-member.out.items c.loop-member.left.now c.in-Some.behind v first
    c.loop-member.invariant in
    let put = rw c.in_default-2.is at c.in_ok-nested.ensures.put in
    members_passed c.args.members c.in-Some.behind _ _ (passed_value _ _ _ _ _ (view v) stop put)

pub returns-in-Some-2-clause-put : goal.returns-in-Some-2-clause-put
returns-in-Some-2-clause-put c =
    let v = c.in-Some.member.now in
    let first : c.loop-member.left.now ≡ v ∷ c.in-Some.behind.now = search rules in
    let stop =
    stops_member c.args.members c.args.out.now.items c.loop-member.out.items c.loop-member.left.now c.in-Some.behind v first
    c.loop-member.invariant in
    let found = rw c.in-Some-2.is at c.in_ok-nested.ensures.put in
    subst (λ w. StopsAt (left.Members c.args.members) c.args.out.now.items w (left.Members c.in-Some.behind) c.put_or_pass.new.out.items) (sym found.0)
    (subst (λ b. StopsAt (left.Members c.args.members) c.args.out.now.items (view v) (left.Members c.in-Some.behind) b) (sym found.1) stop)

pub returns-in_err-nested-clause-refused : goal.returns-in_err-nested-clause-refused
returns-in_err-nested-clause-refused c =
    let v = c.in-Some.member.now in
    let first : c.loop-member.left.now ≡ v ∷ c.in-Some.behind.now = search rules in
    let stop =
    stops_member c.args.members c.args.out.now.items c.loop-member.out.items c.loop-member.left.now c.in-Some.behind v first
    c.loop-member.invariant in
    passed_on _ _ _ c.from_residual.ensures.1 (value_refused _ _ _ _ (view v) _ stop c.in_err-nested.ensures.refused)
