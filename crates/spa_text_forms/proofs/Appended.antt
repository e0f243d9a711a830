-- Tokens that are written one after another.
use Rattle.std.proofs.Common.{◌≡◌, List, [], ◌∷◌, ◌++◌, ap, ◌∙◌, append_assoc}
use Rattle.json.specs.Token.{Token}

pub one_more : (old done some more : List Token) (t : Token) → some ≡ old ++ done → more ≡ some ++ t ∷ [] → more ≡ old ++ (done ++ t ∷ [])
one_more old done some more t e f = f ∙ ap (λ l. l ++ t ∷ []) e ∙ append_assoc old done (t ∷ [])
