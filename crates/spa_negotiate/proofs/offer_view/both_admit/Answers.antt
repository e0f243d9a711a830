use Rattle.spa_negotiate.proofs.offer_view.both_admit.Goals as goal

pub returns-then-admits : goal.returns-then-admits
returns-then-admits c = λ e v w o p. (c.admits.ensures c.if-admits.true v o, c.admits-then-admits.ensures e w p)
