-- How far the work on an input is, of which pods without a form are left out.
use Rattle.std.proofs.Common.{◌≡◌, ◌≤◌, ◌<◌, ◌+◌, ◌∙◌, ℕ, true, List, [], ◌∷◌, ◌++◌, append_assoc, append-nil, ap, arith, drop, length, length-append, length-take, sym, subst, take}
use Rattle.std.proofs.lemmas.List.{drop_at, take_at}
use Rattle.spa_format.specs.Front.{front_of, rest_of}
use Rattle.spa_format.proofs.Fronts.{front_and_rest, rest_is_shorter}
use Rattle.spa_recordings.proofs.Holding.{few_whole}
use Rattle.spa_recordings.specs.declared.going_on.Refused.{Refused}
use Rattle.spa_recordings.specs.declared.reading.Reading.{Reading}
use Rattle.spa_refusals.specs.declared.several.NamedRefusal.{NamedRefusal}
use Rattle.pod_commands.specs.Working.{IsSaidFormless, MakesThrough, StandsBehind, WorksOn, WorksThrough, leaves_formless_out, over_formless, to_end}
use Rattle.pod_commands.specs.declared.refusing.FormlessPod.{FormlessPod}
use Rattle.pod_commands.specs.declared.request.Making.{Making}

module _ (name : List ℕ) (reading : Reading) (refused : Refused) (making : Making) (input : List ℕ) (olds : List NamedRefusal) where
  -- something was made and said; with what is made and said of what is left it is all
  pub record ThroughSoFar (count : ℕ) (left out : List ℕ) (news : List NamedRefusal) : Type 0 where
    pub these : List NamedRefusal
    pub added : news ≡ olds ++ these
    pub few : count + length left ≤ length input
    pub made : (place : ℕ) (others : List ℕ) (those : List NamedRefusal) → place + length left ≡ length input →
        MakesThrough name reading refused making count place left others those →
        MakesThrough name reading refused making 0 0 input (out ++ others) (these ++ those)

  pub begins : (out : List ℕ) → out ≡ [] → ThroughSoFar 0 input out olds
  begins out none = record {
    these = [];
    added = sym (append-nil olds);
    few = omega arith;
    made = λ place others those h m.
        subst (λ z. MakesThrough name reading refused making 0 0 input (z ++ others) those) (sym none)
        (subst (λ z. MakesThrough name reading refused making 0 z input others those) (let z : place ≡ 0 = omega (arith, h) in z) m);
  }

  pub ends : (count place : ℕ) (left out made new : List ℕ) (mids news : List NamedRefusal) → place + length left ≡ length input →
      WorksOn reading refused making name count place left made mids news → new ≡ out ++ made → ThroughSoFar count left out mids →
      WorksThrough reading refused making name input new olds news
  ends count place left out made new mids news h w e so = record {
    these = so.these ++ w.these;
    made =
        subst (λ z. MakesThrough name reading refused making 0 0 input z (so.these ++ w.these)) (sym e)
        (so.made place made w.these h (to_end count place left made w.pods w.these w.goes_on w.said));
    added = w.added ∙ ap (λ z. z ++ w.these) so.added ∙ append_assoc olds so.these w.these;
  }

  pub passes : (count place number : ℕ) (left first pod rest out made new : List ℕ) (mids last news : List NamedRefusal) (its : NamedRefusal)
      (found : FormlessPod) → leaves_formless_out refused making ≡ true → place + length left ≡ length input → StandsBehind left found →
      first ≡ take found.at left → pod ≡ drop found.at left → rest ≡ drop found.len pod →
      WorksOn reading refused making name count place first made mids last → new ≡ out ++ made → number ≡ count + (found.before + 1) →
      IsSaidFormless name number (place + found.at) pod its → news ≡ last ++ (its ∷ []) → ThroughSoFar count left out mids →
      ThroughSoFar number rest new news
  passes count place number left first pod rest out made new mids last news its found leaves h f is_first is_pod is_rest w e n said t so =
      let b = f.before in
      let at = f.at in
      let few = so.few in
      let l = ap length f.parts ∙ length-append f.first f.left in
      let k = few_whole f.first in
      let c = ap length (front_and_rest f.left) ∙ length-append (front_of f.left) (rest_of f.left) in
      let its_first : first ≡ f.first = is_first ∙ ap (take found.at) f.parts ∙ take_at f.first f.left found.at (sym at) in
      let its_pod : pod ≡ f.left = is_pod ∙ ap (drop found.at) f.parts ∙ drop_at f.first f.left found.at (sym at) in
      let its_rest : rest ≡ rest_of f.left =
      is_rest ∙ ap (drop found.len) (its_pod ∙ front_and_rest f.left) ∙ drop_at (front_of f.left) (rest_of f.left) found.len (sym f.len) in
      let d = ap length its_rest in
      let shorter = rest_is_shorter f.left rest f.there its_rest in
      let works = subst (λ z. WorksOn reading refused making name count place z made mids last) its_first w in
      let of_pod : IsSaidFormless name number (place + length f.first) f.left its =
      subst (λ z. IsSaidFormless name number (place + z) f.left its) at (subst (λ z. IsSaidFormless name number (place + found.at) z its) its_pod said) in
      record {
        these = so.these ++ (works.these ++ (its ∷ []));
        added =
            t ∙ ap (λ z. z ++ (its ∷ [])) (works.added ∙ ap (λ z. z ++ works.these) so.added ∙ append_assoc olds so.these works.these)
            ∙ append_assoc olds (so.these ++ works.these) (its ∷ []) ∙ ap (λ z. olds ++ z) (append_assoc so.these works.these (its ∷ []));
        few = omega (arith, n, b, few, l, k, shorter);
        made = λ next others those g m.
            let there : next ≡ place + length f.first + length (front_of f.left) = omega (arith, g, h, l, c, d) in
            let on =
            over_formless count place number f.first f.left made others works.pods works.these those its leaves f.whole f.there works.goes_on works.said
            (omega (arith, n, b)) of_pod
            (subst (λ z. MakesThrough name reading refused making number z (rest_of f.left) others those) there
            (subst (λ z. MakesThrough name reading refused making number next z others those) its_rest m)) in
            subst (λ z. MakesThrough name reading refused making 0 0 input z ((so.these ++ (works.these ++ (its ∷ []))) ++ those))
            (sym (ap (λ z. z ++ others) e ∙ append_assoc out made others))
            (subst (λ z. MakesThrough name reading refused making 0 0 input (out ++ (made ++ others)) z)
            (sym (append_assoc so.these (works.these ++ (its ∷ [])) those ∙ ap (λ z. so.these ++ z) (append_assoc works.these (its ∷ []) those)))
            (so.made place (made ++ others) (works.these ++ (its ∷ those)) h
            (subst (λ z. MakesThrough name reading refused making count place z (made ++ others) (works.these ++ (its ∷ those))) (sym f.parts) on)));
      }

  -- the parts that are worked on are within what is counted
  pub fits : (count : ℕ) (left out first : List ℕ) (news : List NamedRefusal) (found : FormlessPod) → StandsBehind left found → first ≡ take found.at left →
      ThroughSoFar count left out news → (length first ≡ found.at) × (found.at < length left) × (found.before ≤ found.at)
  fits count left out first news found f is so =
      let at = f.at in
      let b = f.before in
      let l = ap length f.parts ∙ length-append f.first f.left in
      let h = f.there.header in
      let k = few_whole f.first in
      let t = ap length is ∙ length-take found.at left in
      (omega (arith, t, at, l), omega (arith, at, l, h), omega (arith, b, k, at))
