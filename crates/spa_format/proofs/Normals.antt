-- A normal form is its own normal form.
use Rattle.std.proofs.Common.{◌≡◌, List, refl, ap}
use Rattle.spa_format.specs.Kind.{Kind, none_kind, bool_kind, id_kind, int_kind, long_kind, float_kind, double_kind, rectangle_kind, fraction_kind, fd_kind, Fixed}
use Rattle.spa_format.specs.Tree.{Tree, fixed, string, bytes, bitmap, array, choice, pointer, struct, object, Trees, no_trees, member, Properties, no_properties, property}
use Rattle.spa_format.specs.Normal.{kept_elements, normal_of, normal_members, normal_properties}
use Rattle.spa_format.proofs.Choices.{flags_kept_once}

kept_elements-kept_elements : (k : Kind) (xs : List Fixed) → kept_elements k (kept_elements k xs) ≡ kept_elements k xs
kept_elements-kept_elements none_kind xs = refl
kept_elements-kept_elements bool_kind xs = refl
kept_elements-kept_elements id_kind xs = refl
kept_elements-kept_elements int_kind xs = refl
kept_elements-kept_elements long_kind xs = refl
kept_elements-kept_elements float_kind xs = refl
kept_elements-kept_elements double_kind xs = refl
kept_elements-kept_elements rectangle_kind xs = refl
kept_elements-kept_elements fraction_kind xs = refl
kept_elements-kept_elements fd_kind xs = refl

mutual
  pub normal_of-normal_of : (v : Tree) → normal_of (normal_of v) ≡ normal_of v
  normal_of-normal_of (fixed x) = refl
  normal_of-normal_of (string s) = refl
  normal_of-normal_of (bytes s) = refl
  normal_of-normal_of (bitmap s) = refl
  normal_of-normal_of (array k xs) = ap (array k) (kept_elements-kept_elements k xs)
  normal_of-normal_of (choice s f k x xs) = ap (λ g. choice s g k x xs) (flags_kept_once s f)
  normal_of-normal_of (pointer t a) = refl
  normal_of-normal_of (struct vs) = ap struct (normal_members-normal_members vs)
  normal_of-normal_of (object t i ps) = ap (object t i) (normal_properties-normal_properties ps)

  normal_members-normal_members : (vs : Trees) → normal_members (normal_members vs) ≡ normal_members vs
  normal_members-normal_members no_trees = refl
  normal_members-normal_members (member v vs) =
      let e0 = normal_of-normal_of v in
      let e1 = normal_members-normal_members vs in
      cc

  normal_properties-normal_properties : (ps : Properties) → normal_properties (normal_properties ps) ≡ normal_properties ps
  normal_properties-normal_properties no_properties = refl
  normal_properties-normal_properties (property k f v ps) =
      let e0 = normal_of-normal_of v in
      let e1 = normal_properties-normal_properties ps in
      cc
