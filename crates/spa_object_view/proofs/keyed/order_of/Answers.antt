use Rattle.std.proofs.Common.{subst}
use Rattle.std.specs.List.Sorted.{IsPermutation}
use Rattle.std.proofs.lemmas.List.Sorted.{IsNonDecreasingBy-from_sort}
use Rattle.spa_object_view.proofs.keyed.order_of.Goals as goal

pub returns-clause-order : goal.returns-clause-order
returns-clause-order c = λ ps w. record {
  short = c.requires;
  same = subst (λ l. IsPermutation l c.sort_unstable.new.self.items) (c.in_ok-order.ensures ps w) c.sort_unstable.ensures.permutation;
}

pub returns-clause-ascending : goal.returns-clause-ascending
returns-clause-ascending c = IsNonDecreasingBy-from_sort (λ x. x) _ c.sort_unstable.ensures.sorted
