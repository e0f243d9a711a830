use Rattle.std.proofs.Common.{Ok, Err, rules}
use Rattle.std.proofs.lemmas.List.Sorted.{answers_always}
use Rattle.spa_names.proofs.Found.{object_found, object_there}
use Rattle.spa_names.proofs.lookup.object_of.Goals as goal

pub returns-in-Ok : goal.returns-in-Ok
returns-in-Ok c =
    let is = c.in-Ok.ensures.position (λ object. object.0) (answers_always _ _ _ (λ f a r g called. search rules)) in
    object_found c.args.type_.0 (Ok c.in-Ok.at) c.in-Ok.ensures.bound is _

pub returns-in-Err : goal.returns-in-Err
returns-in-Err c =
    let is = c.in-Err.ensures.position (λ object. object.0) (answers_always _ _ _ (λ f a r g called. search rules)) in
    object_found c.args.type_.0 (Err c.in-Err.field-0) c.in-Err.ensures.bound is

pub returns-then-object-type_ : goal.returns-then-object-type_
returns-then-object-type_ c =
    let at = c.in-Some.ensures.lookup.3 in
    object_there c.args.type_.0 _ c.in-Some.object.now at.0 at.1 c.if-object-type_.true
