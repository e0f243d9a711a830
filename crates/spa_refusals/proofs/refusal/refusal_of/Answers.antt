use Rattle.std.proofs.Common.{rules, ◌≡◌, string_bytes}
use Rattle.spa_fixed_sized.specs.Faults.{error_text}
use Rattle.spa_refusals.proofs.Unreading.{short_kind}
use Rattle.spa_refusals.proofs.refusal.refusal_of.Goals as goal

pub returns-clause-refusal : goal.returns-clause-refusal
returns-clause-refusal c =
    let inner = c.in_ok-path.inner in
    let words : string_bytes c.write.new.self ≡ error_text inner.error = search rules in
    record {
      type = c.type_name.ensures;
      nothing = c.requires;
      inner = inner.pod.now;
      path = c.in_ok-path.ensures.path;
      inner_type = c.type_name-2.ensures;
      cause = inner.error;
      its = c.in_ok-path.ensures.why;
      kind = c.kind.ensures;
      words = words;
      short = short_kind c.args.reading c.args.pod.now _ inner.pod.now _ inner.error c.in_ok-path.ensures.path c.in_ok-path.ensures.why c.kind.ensures;
      cut = c.cut_of.ensures;
    }
