use Rattle.std.proofs.Common.{inl, inr, refl, rules}
use Rattle.spa_typed_read.specs.ExactlyLaws.{fault_to, memory_to}
use Rattle.spa_typed_read.specs.Lookup.{IsUnder, NoneRead}
use Rattle.spa_typed_read.proofs.Lookups.{all_from, finds_first, finds_from, no_none, required_refused, refused_from, under_memory}
use Rattle.spa_typed_read.proofs.object_content.Tuple2RequiredDeserializeProperties.find_from.Goals as goal

pub returns-in-Err-clause-named : goal.returns-in-Err-clause-named
returns-in-Err-clause-named g c = λ good b all.
    inl (inl (refused_from g.A.PodDeserialize.refuses g.row.KEY c.args.from.now b c.in-Err.e (all.each g.row.KEY (inl refl))
    (c.in-Err.ensures.refused good)))

pub returns-in-Err-clause-refused : goal.returns-in-Err-clause-refused
returns-in-Err-clause-refused g c =
    let claim : g.claim c.lifetimes = search rules in
    λ good b all.
    required_refused g.A.PodDeserialize.reads g.A.PodDeserialize.refuses _ _ _ g.R.DeserializeProperties.reads_properties _ _
    (g.met.A.ExactDeserialize c.lifetimes claim).exactly
    (refused_from g.A.PodDeserialize.refuses g.row.KEY c.args.from.now b c.in-Err.e (all.each g.row.KEY (inl refl))
    (c.in-Err.ensures.refused good))

pub returns-in-Err-clause-memory : goal.returns-in-Err-clause-memory
returns-in-Err-clause-memory g c =
    let claim : g.claim c.lifetimes = search rules in
    let takes = g.A.ExactDeserialize.takes_memory in
    λ good b all.
    memory_to (IsUnder g.row.KEY takes b) _ c.in-Err.e (λ m. inl m)
    (under_memory g.A.PodDeserialize.reads g.A.PodDeserialize.refuses takes _ _ _
    (g.met.A.ExactDeserialize c.lifetimes claim).exactly
    (refused_from g.A.PodDeserialize.refuses g.row.KEY c.args.from.now b c.in-Err.e (all.each g.row.KEY (inl refl))
    (c.in-Err.ensures.refused good)))

pub returns-in-Ok-find_from-clause-found : goal.returns-in-Ok-find_from-clause-found
returns-in-Ok-find_from-clause-found g c = λ good b all ps m.
    let first = rw c.in-Some.is at (finds_first g.A.PodDeserialize.reads g.row.KEY b c.in-Ok.found.0
    (finds_from g.A.PodDeserialize.reads g.row.KEY c.args.from.now b c.in-Ok.found.0 (all.each g.row.KEY (inl refl))
    (c.in-Ok.ensures.found good)) ps m) in (
      first,
      c.in-Ok-find_from.ensures.found good b
          (all_from _ g.R.DeserializeProperties.asks c.args.from.now _ b (λ key a. inr a) all (c.in-Ok.ensures.next good)) ps m,
    )

pub returns-in_default-clause-named : goal.returns-in_default-clause-named
returns-in_default-clause-named g c = λ good b all. inl (inr (
  refl,
  rw c.in_default.is at (finds_from g.A.PodDeserialize.reads g.row.KEY c.args.from.now b c.in-Ok.found.0 (all.each g.row.KEY (inl refl))
      (c.in-Ok.ensures.found good)),
))

pub returns-in_default-clause-refused : goal.returns-in_default-clause-refused
returns-in_default-clause-refused g c = λ good b all ps x m r.
    let none = rw c.in_default.is at (finds_first g.A.PodDeserialize.reads g.row.KEY b c.in-Ok.found.0
    (finds_from g.A.PodDeserialize.reads g.row.KEY c.args.from.now b c.in-Ok.found.0 (all.each g.row.KEY (inl refl))
    (c.in-Ok.ensures.found good)) ps m) in
    no_none _ _ ps r.0 none

pub returns-in-Err-find_from-clause-named : goal.returns-in-Err-find_from-clause-named
returns-in-Err-find_from-clause-named g c = λ good b all. inr (
  c.in-Some.first,
  rw c.in-Some.is at (finds_from g.A.PodDeserialize.reads g.row.KEY c.args.from.now b c.in-Ok.found.0 (all.each g.row.KEY (inl refl))
      (c.in-Ok.ensures.found good)),
  c.in-Err-find_from.ensures.named good b
      (all_from _ g.R.DeserializeProperties.asks c.args.from.now _ b (λ key a. inr a) all (c.in-Ok.ensures.next good)),
)

pub returns-in-Err-find_from-clause-refused : goal.returns-in-Err-find_from-clause-refused
returns-in-Err-find_from-clause-refused g c = λ good b all.
    fault_to (NoneRead g.R.DeserializeProperties.reads_properties b) _ c.in-Err-find_from.e (λ n ps x m r. n ps x.1 m r.1)
    (c.in-Err-find_from.ensures.refused good b
    (all_from _ g.R.DeserializeProperties.asks c.args.from.now _ b (λ key a. inr a) all (c.in-Ok.ensures.next good)))

pub returns-in-Err-find_from-clause-memory : goal.returns-in-Err-find_from-clause-memory
returns-in-Err-find_from-clause-memory g c = λ good b all.
    memory_to (g.R.DeserializeProperties.takes_memory b) _ c.in-Err-find_from.e (λ m. inr m)
    (c.in-Err-find_from.ensures.memory good b
    (all_from _ g.R.DeserializeProperties.asks c.args.from.now _ b (λ key a. inr a) all (c.in-Ok.ensures.next good)))
