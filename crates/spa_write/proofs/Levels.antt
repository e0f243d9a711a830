-- How deep the members of a list and the values of properties nest, and how many bytes the levels have at least.
use Rattle.std.proofs.Common.{◌≡◌, ℕ, ◌+◌, ◌<◌, ◌≤◌, List, length, take, drop, get_or, ap, arith}
use Rattle.std.specs.Prelude.{max}
use Rattle.spa_format.specs.Tree.{Trees, no_trees, member, Properties, no_properties, property, join_members, join_properties}
use Rattle.spa_value.specs.declared.value.Value.{Value}
use Rattle.spa_value.specs.declared.object.Property.{Property}
use Rattle.spa_value.specs.View.{view}
use Rattle.spa_value.specs.Views.{views, property_views}
use Rattle.spa_value.proofs.ViewLaws.{views-at, property_views-at}
use Rattle.spa_canonical.specs.Depth.{depth_of, member_depth, property_depth}

-- a list nests as deep as the members behind some of it
joined_depth : (vs ws : Trees) → member_depth ws ≤ member_depth (join_members vs ws)
joined_depth no_trees ws = omega arith
joined_depth (member v vs) ws =
    let e = joined_depth vs ws in
    let g : member_depth ws ≤ max (depth_of v) (member_depth (join_members vs ws)) = omega arith in
    g

joined_property_depth : (ps qs : Properties) → property_depth qs ≤ property_depth (join_properties ps qs)
joined_property_depth no_properties qs = omega arith
joined_property_depth (property k f v ps) qs =
    let e = joined_property_depth ps qs in
    let g : property_depth qs ≤ max (depth_of v) (property_depth (join_properties ps qs)) = omega arith in
    g

-- and as deep as each of them
pub depth_at : (vs : List Value) (i : ℕ) (v : Value) → i < length vs → v ≡ get_or vs i v → depth_of (view v) ≤ member_depth (views vs)
depth_at vs i v l e =
    let rest = member (view v) (views (drop (i + 1) vs)) in
    let all = joined_depth (views (take i vs)) rest in
    let own : depth_of (view v) ≤ member_depth rest = omega arith in
    let cut = ap member_depth (views-at vs i v l e) in
    omega (arith, all, own, cut)

pub property_depth_at : (ps : List Property) (i : ℕ) (p : Property) → i < length ps → p ≡ get_or ps i p →
    depth_of (view p.value) ≤ property_depth (property_views ps)
property_depth_at ps i p l e =
    let rest = property p.key p.flags.0 (view p.value) (property_views (drop (i + 1) ps)) in
    let all = joined_property_depth (property_views (take i ps)) rest in
    let own : depth_of (view p.value) ≤ property_depth rest = omega arith in
    let cut = ap property_depth (property_views-at ps i p l e) in
    omega (arith, all, own, cut)
