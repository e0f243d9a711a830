-- Tokens behind one another.
use Rattle.std.proofs.Common.{◌≡◌, List, ◌++◌, ap, ◌∙◌, append_assoc}

-- what is appended, and more behind it
pub append_on : {A : Type 0} (o ts us : List A) {p q : List A} → p ≡ o ++ ts → q ≡ p ++ us → q ≡ o ++ (ts ++ us)
append_on o ts us e d = d ∙ ap (λ l. l ++ us) e ∙ append_assoc o ts us
