-- From lists of properties to the two objects that have them.
use Rattle.std.proofs.Common.{◌≡◌, List, refl, sym, ap, ◌∙◌, subst, Vec, Global}
use Rattle.spa_format.specs.Tree.{Tree, object, join_properties}
use Rattle.spa_value.specs.declared.object.Property.{Property}
use Rattle.spa_value.specs.declared.object.Object.{Object, out-Object, roll-Object}
use Rattle.spa_value.specs.View.{object_view}
use Rattle.spa_value.specs.Views.{property_views}
use Rattle.spa_value.specs.ObjectLaws.{ObjectsHaveTheirFields, ObjectsAreMadeOfFields}
use Rattle.spa_negotiate.specs.declared.error.NegotiateError.{NegotiateError}
use Rattle.spa_negotiate.specs.declared.error.NegotiateError.TheVariants.{TypeMismatch}
use Rattle.spa_negotiate.specs.Meeting.{Meet}
use Rattle.spa_negotiate.specs.PropertyLists.{AreSettled}
use Rattle.spa_negotiate.specs.Refusals.{IsRefusal, AreRefused}
use Rattle.spa_negotiate.proofs.Refusing.{AreRefused-properties}

module _ (fields : ObjectsHaveTheirFields) (made : ObjectsAreMadeOfFields) (o p : Object) where
  -- the objects are of two types
  pub mismatch : ¬ ((out-Object o).type_ ≡ (out-Object p).type_) →
      AreRefused (object_view o) (object_view p) TypeMismatch
  mismatch n =
      let f = out-Object o in
      let ours = object f.type_ f.id (property_views f.properties.items) in
      subst (λ v. AreRefused v (object_view p) TypeMismatch) (sym (fields o))
      (subst (λ w. AreRefused ours w TypeMismatch) (sym (fields p)) (λ e. n (sym e)))

  -- they are of one type, and these are their properties
  module _ (xs ys : List Property) (ours : xs ≡ (out-Object o).properties.items)
      (theirs : ys ≡ (out-Object p).properties.items)
      (one : (out-Object o).type_ ≡ (out-Object p).type_) where
    -- the trees of the two
    abbrev left : Tree
    left = object (out-Object o).type_ (out-Object o).id (property_views xs)

    abbrev right : Tree
    right = object (out-Object p).type_ (out-Object p).id (property_views ys)

    both : (P : Tree → Tree → Type 0) → P left right → P (object_view o) (object_view p)
    both P h =
        let f = out-Object o in
        let g = out-Object p in
        let v = fields o ∙ ap (λ z. object f.type_ f.id (property_views z)) (sym ours) in
        let w = fields p ∙ ap (λ z. object g.type_ g.id (property_views z)) (sym theirs) in
        subst (λ t. P t (object_view p)) (sym v) (subst (λ t. P left t) (sym w) h)

    pub objects_refused : (e : NegotiateError) →
        IsRefusal (property_views xs) (property_views ys) e →
        AreRefused (object_view o) (object_view p) e
    objects_refused e h =
        let f = out-Object o in
        let g = out-Object p in
        let refused = AreRefused-properties f.type_ f.id g.type_ g.id _ _ e (sym one) h in
        both (λ v w. AreRefused v w e) refused

    pub objects_meet : (rs : Vec Property Global) →
        AreSettled xs ys (join_properties (property_views xs) (property_views ys)) rs.items →
        let f = out-Object o in
        let met = roll-Object (record { type_ = f.type_; id = f.id; properties = rs }) in
        Meet (object_view o) (object_view p) (object_view met)
    objects_meet rs h =
        let f = out-Object o in
        let met = roll-Object (record { type_ = f.type_; id = f.id; properties = rs }) in
        let same = sym (made f.type_ f.id rs) in
        let one_type = subst (Meet left right) same (sym one, refl, refl, h) in
        both (λ v w. Meet v w (object_view met)) one_type
