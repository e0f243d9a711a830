use Rattle.std.proofs.Common.{◌≡◌, ◌∙◌, ap, subst}
use Rattle.std.proofs.lemmas.Result.{on_ok_weaker}
use Rattle.std.specs.Prelude.{IfSome}
use Rattle.spa_format.specs.Pod.{IsPod}
use Rattle.spa_format.specs.Tree.{Tree}
use Rattle.spa_value.specs.View.{view}
use Rattle.spa_negotiate.specs.Written.{IsCommonEncoded}
use Rattle.spa_negotiate.proofs.Putting.{put_admitted}
use Rattle.spa_negotiate.proofs.settling.put_read.Goals as goal

pub returns-in-Some-second-clause-put : goal.returns-in-Some-second-clause-put
returns-in-Some-second-clause-put c =
    on_ok_weaker c.put_met.result
    (λ put v w first second.
    let ours = subst (λ o. IfSome o (λ held. (t : Tree) → IsPod c.args.pod.now t → view held ≡ t)) c.in-Some.is c.in_ok-first.ensures.value in
    let theirs = subst (λ o. IfSome o (λ held. (t : Tree) → IsPod c.args.other.now t → view held ≡ t)) c.in-Some-second.is c.in_ok-second.ensures.value in
    let a : view c.deref.result.now ≡ v = ap view c.deref.ensures ∙ ours v first.its_pod in
    let b : view c.deref-in-Some-second.result.now ≡ w = ap view c.deref-in-Some-second.ensures ∙ theirs w second.its_pod in
    put_admitted v w _ _ _ _ first
    (subst (λ t. IsCommonEncoded v t c.args.key c.args.out.now.items c.put_met.new.out.items) b
    (subst (λ t. IsCommonEncoded t (view c.deref-in-Some-second.result.now) c.args.key c.args.out.now.items c.put_met.new.out.items) a put)))
    c.put_met.ensures.put
