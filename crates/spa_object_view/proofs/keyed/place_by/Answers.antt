use Rattle.std.proofs.Common.{◌≡◌, ◌*◌, ap, arith, rules}
use Rattle.spa_format.specs.Words.{size_limit}
use Rattle.spa_object_view.proofs.KeyOrders.{no_word_past, no_word_far, least_word}
use Rattle.spa_object_view.proofs.keyed.place_by.Goals as goal

pub returns-then-at-order : goal.returns-then-at-order
returns-then-at-order c =
    let least : c.from-least.result * 4294967296 ≡ c.args.key * size_limit = ap (λ n. n * 4294967296) (search rules) in
    no_word_past _ _ _ _ least c.first_from-at.ensures c.if-at-order.true

pub returns-then-place-ge-PLACES : goal.returns-then-place-ge-PLACES
returns-then-place-ge-PLACES c =
    let least : c.from-least.result * 4294967296 ≡ c.args.key * size_limit = ap (λ n. n * 4294967296) (search rules) in
    no_word_far _ _ _ _ least c.first_from-at.ensures (omega arith) c.if-place-ge-PLACES.true

pub returns : goal.returns
returns c =
    let least : c.from-least.result * 4294967296 ≡ c.args.key * size_limit = ap (λ n. n * 4294967296) (search rules) in
    least_word _ _ _ _ least c.first_from-at.ensures (omega arith) (omega arith)
