-- A set of keys, as one more property is looked at.
use Rattle.std.proofs.Common.{◌≡◌, ℕ, ◌==◌, Bool, true, false, if◌then◌else◌, sym, ap, ◌∙◌}
use Rattle.std.proofs.lemmas.Bool.{not-false, not-true}
use Rattle.std.specs.BTreeSet.{BTreeSet}
use Rattle.spa_format.specs.Tree.{Properties, join_properties}
use Rattle.spa_value.specs.declared.object.Property.{Property}
use Rattle.spa_value.specs.View.{view}
use Rattle.spa_value.specs.Views.{property_view}
use Rattle.spa_keyed_objects.specs.Keys.{key_list, contains}
use Rattle.spa_keyed_objects.specs.PropertyLists.{HasKeys, IsAdded}
use Rattle.spa_keyed_objects.proofs.KeyLists.{contains-key_list}

-- the set has the keys of the properties before p, and p's key is added to it, in which it is new or not
module _ (p : Property) (old new : BTreeSet ℕ) (is_new : Bool) (added : IsAdded old p.key is_new new)
    (before : Properties) (has : HasKeys old before) where
  pub there : is_new ≡ false → contains p.key (key_list before) ≡ true
  there e = sym (has p.key) ∙ not-false _ (sym added.absent ∙ e)

  pub absent : is_new ≡ true → contains p.key (key_list before) ≡ false
  absent e = sym (has p.key) ∙ not-true _ (sym added.absent ∙ e)

  pub more_keys : HasKeys new (join_properties before (property_view p))
  more_keys k =
      let now = ap (λ b. if p.key == k then true else b) (has k) in
      let listed = contains-key_list k p.key p.flags.0 (view p.value) before in
      added.others k ∙ now ∙ sym listed
