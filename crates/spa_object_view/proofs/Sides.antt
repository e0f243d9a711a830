-- A side that is gone through property by property: what is left of it, and what holds of the properties that were passed.
use Rattle.std.proofs.Common.{◌≡◌, ℕ, ◌<◌, ◌≤◌, List, length, drop, refl, sym, ap, ◌∙◌, subst, arith, true≢false}
use Rattle.spa_format.specs.Words.{header_size}
use Rattle.spa_format.specs.Tree.{Tree, Properties, no_properties, property, join_properties}
use Rattle.spa_format.specs.Front.{HasFront, rest_of}
use Rattle.spa_format.specs.Typed.{IsBytes}
use Rattle.spa_format.proofs.Sequences.{join_properties-none, join_properties-assoc}
use Rattle.spa_object_view.specs.Written.{AreWritten, HasFirst}
use Rattle.spa_object_view.specs.KeyOrder.{AreBelow, ArePassed}
use Rattle.spa_object_view.proofs.Listed.{AreListed, listed}
use Rattle.spa_object_view.proofs.Passed.{below_on, passed_on}
use Rattle.spa_keyed_objects.specs.CanonicalPods.{IsCanonicalPod}

-- some properties of a side were passed, and these bytes of it are left; the fact holds of the passed ones, behind those before the side
pub record IsSideLeft (before ps : Properties) (b left : List ℕ) (bound : ℕ) (Holds : Properties → Type 0) : Type 0 where
  pub done : Properties
  pub passed : ArePassed ps done b left
  pub list : AreListed passed.rest left
  pub below : AreBelow bound done
  pub holds : Holds (join_properties before done)

-- this property is the first that is left, with its value's pod and what is behind it
pub record IsNext (before ps : Properties) (b left pod rest : List ℕ) (key flags bound : ℕ) (Holds : Properties → Type 0) : Type 0 where
  pub done : Properties
  pub value : Tree
  pub behind : Properties
  pub all : ps ≡ join_properties done (property key flags value behind)
  pub written : IsCanonicalPod value pod
  pub passed : ArePassed ps done b left
  pub below : AreBelow bound done
  pub its_rest : rest ≡ rest_of (drop header_size left)
  pub list : AreListed behind rest
  pub holds : Holds (join_properties before done)

-- none was passed yet
pub side_begun : (before ps : Properties) (b : List ℕ) (Holds : Properties → Type 0) → IsBytes b → AreWritten ps b → Holds before → IsSideLeft before ps b b 0 Holds
side_begun before ps b Holds h w m = record {
  done = no_properties;
  passed = record { rest = ps; all = refl; left_is = refl };
  list = listed ps b h w.properties w.same;
  below = λ k e. absurd (true≢false (sym e));
  holds = subst Holds (sym (join_properties-none before)) m;
}

-- the first that is left has its place among them
pub side_next : {before ps : Properties} {b left pod rest : List ℕ} {key flags bound : ℕ} {Holds : Properties → Type 0} → HasFirst left key flags pod rest →
    IsSideLeft before ps b left bound Holds → IsNext before ps b left pod rest key flags bound Holds
side_next {before} {ps} {b} {left} {pod} {rest} {key} {flags} {bound} {Holds} f i = of_rest i.passed.rest i.passed.all i.list
  where
    of_rest : (rs : Properties) → ps ≡ join_properties i.done rs → AreListed rs left → IsNext before ps b left pod rest key flags bound Holds
    of_rest no_properties e m = absurd (let z = ap length m in let h = f.header in omega arith)
    of_rest (property j g v rs) e m =
        let its_key : j ≡ key = m.0.key ∙ sym f.its_key in
        let its_flags : g ≡ flags = m.0.flags ∙ sym f.its_flags in
        record {
          done = i.done;
          value = v;
          behind = rs;
          all = e ∙ ap (λ n. join_properties i.done (property n g v rs)) its_key ∙ ap (λ n. join_properties i.done (property key n v rs)) its_flags;
          written = subst (IsCanonicalPod v) (sym f.its_pod) m.0.written;
          passed = i.passed;
          below = i.below;
          its_rest = f.its_rest;
          list = subst (AreListed rs) (sym f.its_rest) m.1;
          holds = i.holds;
        }

-- and is passed
pub side_on : {before ps : Properties} {b left pod rest : List ℕ} {key flags bound next : ℕ} {Old New : Properties → Type 0} →
    (n : IsNext before ps b left pod rest key flags bound Old) → bound ≤ next → key < next →
    New (join_properties (join_properties before n.done) (property key flags n.value no_properties)) → IsSideLeft before ps b rest next New
side_on {before} {ps} {b} {left} {pod} {rest} {key} {flags} {bound} {next} {Old} {New} n l m h =
    let one = property key flags n.value no_properties in
    record {
      done = join_properties n.done one;
      passed = record {
        rest = n.behind;
        all = n.all ∙ sym (join_properties-assoc n.done one n.behind);
        left_is = passed_on n.done b left rest key flags n.value n.passed.left_is n.its_rest;
      };
      list = n.list;
      below = below_on bound next key flags n.value n.done n.below l m;
      holds = subst New (join_properties-assoc before n.done one) h;
    }

-- none is left
pub side_ended : {before ps : Properties} {b left : List ℕ} {bound : ℕ} {Holds : Properties → Type 0} → (header_size ≤ length left → ¬ (HasFront (drop header_size left))) →
    IsSideLeft before ps b left bound Holds → Holds (join_properties before ps)
side_ended {before} {ps} {left = left} {Holds = Holds} n i = of_rest i.passed.rest i.passed.all i.list
  where
    of_rest : (rs : Properties) → ps ≡ join_properties i.done rs → AreListed rs left → Holds (join_properties before ps)
    of_rest no_properties e m = subst (λ qs. Holds (join_properties before qs)) (sym (e ∙ join_properties-none i.done)) i.holds
    of_rest (property j g v rs) e m = absurd (n m.0.header m.0.there)
