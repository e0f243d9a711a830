use Rattle.std.proofs.Common.{rules}
use Rattle.spa_typed_read.proofs.Written.{read_back, refused_back}
use Rattle.spa_typed_read.proofs.laws.exact_types_come_back.Goals as goal

pub returns : goal.returns
returns g c =
    let claim : g.claim c.lifetimes = search rules in
    record {
      exactly = (g.met.P.ExactDeserialize c.lifetimes claim).exactly;
      read = λ v rest left x t w r. read_back g.P.PodDeserialize.reads v rest left x t w r;
      refused = λ v rest x e t w r h.
          refused_back g.P.PodDeserialize.reads _ v rest x e t w r ((g.met.P.ExactDeserialize c.lifetimes claim).exactly _ e h);
    }
