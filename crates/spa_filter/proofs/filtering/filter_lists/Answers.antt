use Rattle.std.proofs.Common.{List, [], refl, sym, subst}
use Rattle.spa_format.specs.Tree.{no_properties, join_properties}
use Rattle.spa_format.proofs.Sequences.{join_properties-none}
use Rattle.spa_value.specs.declared.object.Property.{Property}
use Rattle.spa_value.specs.Views.{property_views}
use Rattle.spa_filter.specs.PropertyLists.{IsPart}
use Rattle.spa_filter.proofs.filtering.filter_lists.Goals as goal

-- the first side stands at the front, and the second behind it
first_part : (a b : List Property) → IsPart a b [] a
first_part a b = record { rest = property_views b; whole = refl }

second_part : (a b : List Property) → IsPart a b a b
second_part a b =
    record { rest = no_properties; whole = sym (join_properties-none (join_properties (property_views a) (property_views b))) }

pub filter_side-requires-clause-part : goal.filter_side-requires-clause-part
filter_side-requires-clause-part c =
    let a = c.args.a.now in
    let b = c.args.b.now in
    subst (λ x. IsPart x c.in_ok-theirs.theirs.properties.now [] a) (sym c.in_ok-ours.ensures.properties)
    (subst (λ y. IsPart a y [] a) (sym c.in_ok-theirs.ensures.properties) (first_part a b))

pub filter_side-requires-2-clause-part : goal.filter_side-requires-2-clause-part
filter_side-requires-2-clause-part c =
    let a = c.args.a.now in
    let b = c.args.b.now in
    subst (λ x. IsPart x c.in_ok-theirs.theirs.properties.now a b) (sym c.in_ok-ours.ensures.properties)
    (subst (λ y. IsPart a y a b) (sym c.in_ok-theirs.ensures.properties) (second_part a b))
