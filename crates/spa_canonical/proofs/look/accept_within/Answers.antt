use Rattle.std.proofs.Common.{arith, length, length-set, refl, set, sym, ◌∙◌, ◌≡◌}
use Rattle.std.proofs.lemmas.Bool.{eqb-false, eqb-true}
use Rattle.spa_canonical.specs.declared.inside.Waiting.{Waiting}
use Rattle.spa_canonical.proofs.Looks.{inside_listed}
use Rattle.spa_canonical.proofs.Words.{bytes_of}
use Rattle.spa_canonical.specs.Depth.{levels_looked_into}
use Rattle.spa_canonical.proofs.Deeper.{holds_none, input_deep, its_front}
use Rattle.spa_canonical.proofs.Accepted.{inside_stops}
use Rattle.spa_canonical.proofs.Levels.{nested_long}
use Rattle.spa_canonical.proofs.Offsets.{body_long}
use Rattle.spa_canonical.proofs.ShorterLemmas.{shorter_inside, shorter_opened}
use Rattle.spa_canonical.proofs.look.accept_within.Goals as goal

pub unreachable-requires : goal.unreachable-requires
unreachable-requires c = c.in_default.ensures.short (its_front levels_looked_into _ c.requires)

pub unreachable-requires-in_default-inside_of : goal.unreachable-requires-in_default-inside_of
unreachable-requires-in_default-inside_of c =
    let other = c.in_default-inside_of.ensures in
    holds_none levels_looked_into _ _ (omega arith) other.other other.short (input_deep levels_looked_into _ _ _ _ c.in-Some.ensures.there c.requires)

pub look_inside-requires-clause-left : goal.look_inside-requires-clause-left
look_inside-requires-clause-left c =
    let listed = inside_listed _ _ _ _ _ _ c.args.frames.now _ (bytes_of _ c.type_inv.input) c.in-Some.ensures.there c.in-Some-inside_of.ensures.there
    (eqb-false _ 0 (sym c.is_empty.ensures ∙ c.if-is_empty.false)) c.list.ensures in
    let inside = body_long _ _ _ _ c.in-Some-inside_of.ensures.there in
    (_, _, omega (arith, c.in-Some.ensures.there.fits), listed)

pub overflow_add-at-in-Stops : goal.overflow_add-at-in-Stops
overflow_add-at-in-Stops c =
    let listed = inside_listed _ _ _ _ _ _ c.args.frames.now _ (bytes_of _ c.type_inv.input) c.in-Some.ensures.there c.in-Some-inside_of.ensures.there
    (eqb-false _ 0 (sym c.is_empty.ensures ∙ c.if-is_empty.false)) c.list.ensures in
    let room = (c.in-Stops.ensures.found _ _ listed).0.room in
    let inside = body_long _ _ _ _ c.in-Some-inside_of.ensures.there in
    omega (arith, c.in-Some.ensures.there.fits)

pub overflow_sub-at : goal.overflow_sub-at
overflow_sub-at c =
    let listed = inside_listed _ _ _ _ _ _ c.args.frames.now _ (bytes_of _ c.type_inv.input) c.in-Some.ensures.there c.in-Some-inside_of.ensures.there
    (eqb-false _ 0 (sym c.is_empty.ensures ∙ c.if-is_empty.false)) c.list.ensures in
    let room = (c.in-Stops.ensures.found _ _ listed).0.room in
    let inside = body_long _ _ _ _ c.in-Some-inside_of.ensures.there in
    omega arith

pub returns-in-Fits-clause-accepted : goal.returns-in-Fits-clause-accepted
returns-in-Fits-clause-accepted c =
    let listed = inside_listed _ _ _ _ _ _ c.args.frames.now _ (bytes_of _ c.type_inv.input) c.in-Some.ensures.there c.in-Some-inside_of.ensures.there
    (eqb-false _ 0 (sym c.is_empty.ensures ∙ c.if-is_empty.false)) c.list.ensures in
    shorter_opened _ _ _ _ _ c.in-Some.ensures.there (shorter_inside _ _ _ _ _ c.in-Some-inside_of.ensures.there (c.in-Fits.ensures.found _ _ listed).0.shorter)

pub fault-requires-clause-refused : goal.fault-requires-clause-refused
fault-requires-clause-refused c = let listed = inside_listed _ _ _ _ _ _ c.args.frames.now _ (bytes_of _ c.type_inv.input) c.in-Some.ensures.there c.in-Some-inside_of.ensures.there
    (eqb-false _ 0 (sym c.is_empty.ensures ∙ c.if-is_empty.false)) c.list.ensures in ((c.in-Stops.ensures.found _ _ listed).0.fault refl).refused

pub fault-requires-clause-alone : goal.fault-requires-clause-alone
fault-requires-clause-alone c = let listed = inside_listed _ _ _ _ _ _ c.args.frames.now _ (bytes_of _ c.type_inv.input) c.in-Some.ensures.there c.in-Some-inside_of.ensures.there
    (eqb-false _ 0 (sym c.is_empty.ensures ∙ c.if-is_empty.false)) c.list.ensures in ((c.in-Stops.ensures.found _ _ listed).0.fault refl).alone

pub returns-in-Stops-clause-rejected : goal.returns-in-Stops-clause-rejected
returns-in-Stops-clause-rejected c =
    let listed = inside_listed _ _ _ _ _ _ c.args.frames.now _ (bytes_of _ c.type_inv.input) c.in-Some.ensures.there c.in-Some-inside_of.ensures.there
    (eqb-false _ 0 (sym c.is_empty.ensures ∙ c.if-is_empty.false)) c.list.ensures in
    inside_stops _ _ _ _ _ _ _ _ _ _ c.in-Some.ensures.there c.in-Some-inside_of.ensures.there ((c.in-Stops.ensures.found _ _ listed).0.fault refl) refl c.fault.ensures

pub returns-in-Full-clause-full : goal.returns-in-Full-clause-full
returns-in-Full-clause-full c = λ _.
    let listed = inside_listed _ _ _ _ _ _ c.args.frames.now _ (bytes_of _ c.type_inv.input) c.in-Some.ensures.there c.in-Some-inside_of.ensures.there
    (eqb-false _ 0 (sym c.is_empty.ensures ∙ c.if-is_empty.false)) c.list.ensures in
    let long : length (set c.args.frames.now 0 c.list.result) ≡ length c.args.frames.now = omega (arith, length-set {A = Waiting}) in
    let deep = nested_long _ _ _ (c.in-Full.ensures.found _ _ listed).0 in
    let inside = body_long _ _ _ _ c.in-Some-inside_of.ensures.there in
    let body = c.in-Some.ensures.there.shorter in
    omega arith

pub returns-then-is_empty-clause-full : goal.returns-then-is_empty-clause-full
returns-then-is_empty-clause-full c = λ _.
    let front = (its_front levels_looked_into _ c.requires).header in
    let none = eqb-true _ _ (sym c.is_empty.ensures ∙ c.if-is_empty.true) in
    omega arith
