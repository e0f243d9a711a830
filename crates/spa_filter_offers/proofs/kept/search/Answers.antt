use Rattle.std.proofs.Common.{◌≡◌, ◌+◌, ◌<◌, ℕ, List, ◌++◌, length, map, take, drop, get_or, sym, ap, ◌∙◌, subst}
use Rattle.std.specs.List.{Contains}
use Rattle.std.proofs.lemmas.List.{map-append, take-append-drop}
use Rattle.std.proofs.lemmas.List.Elements.{Contains-append_left, Contains-push}
use Rattle.spa_format.specs.Kind.{Fixed}
use Rattle.spa_filter_offers.proofs.Contents.{map-next}
use Rattle.spa_filter_offers.proofs.kept.search.Goals as goal

-- what is at an index is among all
among : {T : Type 0} (f : T → Fixed) (xs : List T) (i : ℕ) (x : T) → i < length xs → x ≡ get_or xs i x → Contains (map f xs) (f x)
among f xs i x l e =
    let there : Contains (map f (take (i + 1) xs)) (f x) =
    subst (λ ys. Contains ys (f x)) (sym (map-next f xs i x l e)) (Contains-push (map f (take i xs)) (f x)) in
    let whole : map f xs ≡ map f (take (i + 1) xs) ++ map f (drop (i + 1) xs) =
    ap (map f) (sym (take-append-drop (i + 1) xs)) ∙ map-append f (take (i + 1) xs) (drop (i + 1) xs) in
    subst (λ ys. Contains ys (f x)) (sym whole) (Contains-append_left (map f (take (i + 1) xs)) (map f (drop (i + 1) xs)) (f x) there)

pub returns-then-is_same : goal.returns-then-is_same
returns-then-is_same g c = λ _.
    let f = g.T.CanonicalFixedSizedPod.fixed in
    let values = c.args.values.now in
    let at = c.in-Some-get.ensures.lookup in
    subst (Contains (map f values)) (sym (c.is_same.ensures.0 c.if-is_same.true)) (among f values _ c.in-Some-get.known.now at.3.0 at.1)
