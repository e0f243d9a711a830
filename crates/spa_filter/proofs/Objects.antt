-- From lists of properties to the two objects that have them.
use Rattle.std.proofs.Common.{◌≡◌, List, sym, ap, ◌∙◌, subst, Vec, Global}
use Rattle.spa_format.specs.Tree.{Tree, object}
use Rattle.spa_value.specs.declared.object.Property.{Property}
use Rattle.spa_value.specs.declared.object.Object.{Object, out-Object, roll-Object}
use Rattle.spa_value.specs.View.{object_view}
use Rattle.spa_value.specs.Views.{property_views}
use Rattle.spa_value.specs.ObjectLaws.{ObjectsHaveTheirFields, ObjectsAreMadeOfFields}
use Rattle.spa_filter.specs.declared.error.FilterError.{FilterError}
use Rattle.spa_filter.specs.Settling.{settled_properties, settled_of}
use Rattle.spa_filter.specs.Refusals.{IsRefusal, AreRefused}
use Rattle.spa_filter.proofs.Agreeing.{AreRefused-properties}

module _ (fields : ObjectsHaveTheirFields) (made : ObjectsAreMadeOfFields) (o p : Object) where
  -- they are of one type, and these are their properties
  module _ (xs ys : List Property) (ours : xs ≡ (out-Object o).properties.items)
      (theirs : ys ≡ (out-Object p).properties.items)
      (one : (out-Object o).type_ ≡ (out-Object p).type_) where
    -- the trees of the two
    abbrev left : Tree
    left = object (out-Object o).type_ (out-Object o).id (property_views xs)

    abbrev right : Tree
    right = object (out-Object p).type_ (out-Object p).id (property_views ys)

    both : (P : Tree → Tree → Type 0) → P left right → P (object_view o) (object_view p)
    both P h =
        let f = out-Object o in
        let g = out-Object p in
        let v = fields o ∙ ap (λ z. object f.type_ f.id (property_views z)) (sym ours) in
        let w = fields p ∙ ap (λ z. object g.type_ g.id (property_views z)) (sym theirs) in
        subst (λ t. P t (object_view p)) (sym v) (subst (λ t. P left t) (sym w) h)

    pub objects_refused : (e : FilterError) →
        IsRefusal (property_views xs) (property_views ys) e →
        AreRefused (object_view o) (object_view p) e
    objects_refused e h =
        let f = out-Object o in
        let g = out-Object p in
        let refused = AreRefused-properties f.type_ f.id g.type_ g.id _ _ e (sym one) h in
        both (λ v w. AreRefused v w e) refused

  -- these are the settled properties of an object
  pub objects_settle : (xs : List Property) → xs ≡ (out-Object o).properties.items → (rs : Vec Property Global) →
      property_views rs.items ≡ settled_properties (property_views xs) →
      let f = out-Object o in
      let met = roll-Object (record { type_ = f.type_; id = f.id; properties = rs }) in
      object_view met ≡ settled_of (object_view o)
  objects_settle xs ours rs h =
      let f = out-Object o in
      let same = ap (λ ps. settled_properties (property_views ps)) ours in
      made f.type_ f.id rs ∙ ap (object f.type_ f.id) (h ∙ same) ∙ sym (ap settled_of (fields o))
