use Rattle.std.proofs.Common.{◌<◌, ◌∙◌, subst, sym}
use Rattle.spa_typed_read.proofs.Elements.{array_begins, comes_back, no_units, says_all}
use Rattle.spa_typed_read.proofs.laws.lists_come_back.Goals as goal

pub returns : goal.returns
returns g c =
    let k = g.E.CanonicalType.CanonicalFixedSizedPod in
    let e = g.E.FixedSizedPod in
    let met = g.met.E.CanonicalType.CanonicalFixedSizedPod in
    record {
      pod = comes_back k.kind k.fixed e.to_canonical e.of_canonical met.same;
      encoding = λ rest xs sized t w.
          array_begins k.kind (says_all k.fixed e.to_canonical xs) rest (subst (λ n. 0 < n) met.its_size sized) t w;
      units = λ input ys first last none o t.
          no_units k.kind k.fixed e.of_canonical input ys first last (sym met.its_size ∙ none) o t;
    }
