use Rattle.std.specs.Prelude.{string_bytes}
use Rattle.std.proofs.Common.{[], ◌∷◌, ◌++◌, ap, ◌∙◌, refl, subst, sym}
use Rattle.std.proofs.lemmas.List.{nil_from_length}
use Rattle.spa_pod_commands.specs.Lines.{Says, line_of_pod}
use Rattle.spa_pod_commands.proofs.Levels.{begins, closed, ends, lighter_closed, lighter_taken, taken}
use Rattle.spa_pod_commands.proofs.listing.list.Goals as goal

pub loop-level-init : goal.loop-level-init
loop-level-init g c =
    begins c.args.pods.now (g.W.Write.contents c.args.output.now) (string_bytes c.args.lines.now) c.push.new.levels.items _ _
    c.in_ok-push.ensures.pushed c.new-levels.ensures.items refl

pub loop-level-smaller-in-Continue-branch-4 : goal.loop-level-smaller-in-Continue-branch-4
loop-level-smaller-in-Continue-branch-4 g c =
    lighter_taken c.loop-level.levels.items c.push-in-Some-next-2.new.levels.items c.pop.new.self.items c.in-Some.level c.next.new.self c.inside.result
    c.in-Some-next.pod.bytes.now c.in-Some.ensures.items (c.in_ok-push-3.ensures.pushed ∙ ap (λ z. z ++ (c.inside.result ∷ [])) c.in_ok-push-2.ensures.pushed)
    c.in-Some-next.ensures.next c.inside.ensures.smaller

pub loop-level-preserved-in-Continue-branch-4 : goal.loop-level-preserved-in-Continue-branch-4
loop-level-preserved-in-Continue-branch-4 g c =
    let old = g.W.Write.contents c.args.output.now in
    let mid = g.W.Write.contents c.loop-level.output in
    let new = g.W.Write.contents c.add_line.new.output in
    let p = c.in-Some-next.pod.bytes.now in
    let ls = c.pop.new.self.items in
    taken c.args.pods.now old mid new (string_bytes c.args.lines.now) (string_bytes c.loop-level.lines) (string_bytes c.add_line.new.lines)
    c.loop-level.levels.items c.push-in-Some-next-2.new.levels.items ls c.in-Some.level c.next.new.self c.inside.result p c.in-Some.ensures.items
    (c.in_ok-push-3.ensures.pushed ∙ ap (λ z. z ++ (c.inside.result ∷ [])) c.in_ok-push-2.ensures.pushed) c.in-Some-next.ensures.next c.inside.ensures.inside
    c.loop-level.invariant
    (subst (λ n. Says mid (string_bytes c.loop-level.lines) new (string_bytes c.add_line.new.lines) (line_of_pod n p))
    (c.len.ensures ∙ c.pop.new.self.ok.0) c.in_ok-add_line.ensures.added)

pub loop-level-smaller : goal.loop-level-smaller
loop-level-smaller g c = lighter_closed c.loop-level.levels.items c.pop.new.self.items c.in-Some.level c.in-Some.ensures.items

pub loop-level-preserved : goal.loop-level-preserved
loop-level-preserved g c =
    closed c.args.pods.now (g.W.Write.contents c.args.output.now) (g.W.Write.contents c.loop-level.output)
    (string_bytes c.args.lines.now) (string_bytes c.loop-level.lines) c.loop-level.levels.items c.pop.new.self.items c.in-Some.level
    c.in-Some.ensures.items c.in_default-next.ensures.end c.loop-level.invariant

pub returns-clause-listed : goal.returns-clause-listed
returns-clause-listed g c =
    ends c.args.pods.now (g.W.Write.contents c.args.output.now) (g.W.Write.contents c.loop-level.output)
    (string_bytes c.args.lines.now) (string_bytes c.loop-level.lines) c.loop-level.levels.items
    (nil_from_length c.loop-level.levels.items (sym c.loop-level.levels.ok.0 ∙ c.in_default.ensures.cases.0)) c.loop-level.invariant
