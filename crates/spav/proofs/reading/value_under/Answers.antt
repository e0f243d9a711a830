use Rattle.std.proofs.Common.{◌∙◌, sym, ap, subst}
use Rattle.spa_format.specs.Walk.{first_with_key, properties_of, property_walk}
use Rattle.spa_view.specs.Settled.{settled_bytes}
use Rattle.spa_view.specs.Tests.{IsObjectPod}
use Rattle.spa_view.specs.View.{prop_bytes}
use Rattle.spav.proofs.reading.value_under.Goals as goal

pub returns-in-Some-find_prop-clause-found : goal.returns-in-Some-find_prop-clause-found
returns-in-Some-find_prop-clause-found c =
    let same = c.in-Ok.ensures.value ∙ c.in-Some.ensures.front in
    record {
      object = record {
        front = c.in-Some.ensures.there;
        object = subst IsObjectPod c.in-Some.ensures.front c.in-Ok.ensures.ok;
      };
      property = prop_bytes c.in-Some-find_prop.property;
      first = ap (λ b. first_with_key c.args.key (property_walk (properties_of b))) (sym same) ∙ c.in-Some-find_prop.ensures;
      value = c.settled.ensures.bytes ∙ ap settled_bytes c.value.ensures;
    }
