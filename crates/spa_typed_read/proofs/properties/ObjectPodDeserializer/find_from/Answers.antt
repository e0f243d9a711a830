use Rattle.std.proofs.Common.{◌≡◌, ◌≢◌, refl, rules, subst, sym}
use Rattle.std.specs.Prelude.{IfNone}
use Rattle.spa_format.specs.Words.{word_at}
use Rattle.spa_format.specs.Front.{HasFront}
use Rattle.spa_typed_read.specs.Lookup.{LeadsTo, LeadsToAll, arrived, short_key, short_pod, under_key}
use Rattle.spa_read.proofs.Remainders.{emptied, filled}
use Rattle.spa_typed_read.proofs.Lookups.{all_on, leads_on, unwrapped}
use Rattle.spa_typed_read.proofs.properties.ObjectPodDeserializer.find_from.Goals as goal

pub loop-self-init : goal.loop-self-init
loop-self-init g c = record { leads = arrived _ refl; next = record { each = λ key a. arrived _ refl } }

pub returns-then-left-lt-HEADER_LEN-clause-refused : goal.returns-then-left-lt-HEADER_LEN-clause-refused
returns-then-left-lt-HEADER_LEN-clause-refused g c =
    let left = c.loop-self.left.now in
    λ good.
    short_key left c.loop-self.invariant.leads (filled left c.loop-self-test.ensures) c.if-left-lt-HEADER_LEN.true c.short_at.ensures

pub returns-in-Ok-clause-found : goal.returns-in-Ok-clause-found
returns-in-Ok-clause-found g c =
    let left = c.loop-self.left.now in
    let its_key : word_at left 0 ≡ c.args.key = search rules in
    let read = rw c.split_at.ensures.back at c.in-Ok.ensures.read in
    λ good.
    record {
      left = left;
      leads = c.loop-self.invariant.leads;
      header = c.if-left-lt-HEADER_LEN.false;
      its_key = its_key;
      rest = _;
      value = read;
    }

pub returns-in-Err-clause-refused : goal.returns-in-Err-clause-refused
returns-in-Err-clause-refused g c =
    let left = c.loop-self.left.now in
    let its_key : word_at left 0 ≡ c.args.key = search rules in
    let refused = rw c.split_at.ensures.back at c.in-Err.ensures.refused in
    λ good. under_key left c.loop-self.invariant.leads c.if-left-lt-HEADER_LEN.false its_key refused

pub returns-in_default-clause-refused : goal.returns-in_default-clause-refused
returns-in_default-clause-refused g c =
    let left = c.loop-self.left.now in
    let short = subst (λ l. ¬ (HasFront l)) c.split_at.ensures.back c.in_default.ensures.short in
    let at_pod = rw c.split_at.ensures.back at c.short_at-in_default.ensures in
    λ good. short_pod left c.loop-self.invariant.leads c.if-left-lt-HEADER_LEN.false short at_pod

pub loop-self-preserved : goal.loop-self-preserved
loop-self-preserved g c =
    let left = c.loop-self.left.now in
    let other : word_at left 0 ≢ c.args.key = search rules in
    let there = subst HasFront c.split_at.ensures.back c.in-Some.ensures.there.there in
    let follows = rw c.split_at.ensures.back at c.in-Some.ensures.there.its_rest in
    let met = subst (λ l. LeadsToAll g.R.DeserializeProperties.asks l c.args.from.now) (sym c.first_asked-next.ensures.same) c.loop-self.invariant.next in
    let none = subst (λ k. IfNone c.first_asked-next.result (¬ (g.R.DeserializeProperties.asks k))) c.u32_at-found.ensures c.first_asked-next.ensures.none in
    record {
      leads = leads_on c.args.key left _ _ c.loop-self.invariant.leads c.if-left-lt-HEADER_LEN.false other there follows;
      next = all_on g.R.DeserializeProperties.asks _ left _ _ met none c.if-left-lt-HEADER_LEN.false there follows;
    }

pub returns-clause-found : goal.returns-clause-found
returns-clause-found g c =
    let left = c.loop-self.left.now in
    λ good. subst (λ l. LeadsTo c.args.key l c.args.from.now) (emptied left c.loop-self-test.ensures) c.loop-self.invariant.leads

pub returns-in-Ok-clause-next : goal.returns-in-Ok-clause-next
returns-in-Ok-clause-next g c =
    let left = c.loop-self.left.now in
    let asks = g.R.DeserializeProperties.asks in
    let read = rw (c.split_at.ensures.back, ← c.rest.ensures) at c.in-Ok.ensures.read in
    let met = subst (λ l. LeadsToAll asks l c.args.from.now) (sym c.first_asked-next.ensures.same) c.loop-self.invariant.next in
    let none = subst (λ k. IfNone c.first_asked-next.result (¬ (asks k))) c.u32_at-found.ensures c.first_asked-next.ensures.none in
    let on = all_on asks _ left _ _ met none c.if-left-lt-HEADER_LEN.false read.begins.there read.follows in
    λ good. rw c.unwrap_or.ensures (subst (λ l. LeadsToAll asks l c.args.from.now) (unwrapped c.first_asked-next.result c.rest.result) on)

pub returns-clause-next : goal.returns-clause-next
returns-clause-next g c =
    let asks = g.R.DeserializeProperties.asks in
    λ good. rw c.unwrap_or-2.ensures (subst (λ l. LeadsToAll asks l c.args.from.now) (unwrapped c.loop-self.next c.loop-self.left) c.loop-self.invariant.next)
