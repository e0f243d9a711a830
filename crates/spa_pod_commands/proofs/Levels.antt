-- The steps of listing pods, and those inside them.
use Rattle.std.proofs.Common.{◌≡◌, ◌≤◌, ◌<◌, ℕ, suc, zero, ◌+◌, List, [], ◌∷◌, ◌++◌, Option, Some, None, refl, sym, inl, inr, arith, take, drop, length, ◌∙◌, ap, subst, length-append, length-drop, length-take, append_assoc, append-nil}
use Rattle.std.specs.Prelude.{if◌then◌else◌, IfNone}
use Rattle.std.proofs.lemmas.Bool.Decides.{leb_tells}
use Rattle.std.proofs.lemmas.List.{length-take-le}
use Rattle.std.proofs.KnownBytes.{Appends-nil}
use Rattle.spa_device.specs.CountingLaws.{known_more}
use Rattle.spa_format.specs.Words.{body_of, extent, word_at}
use Rattle.spa_format.specs.Walk.{extent_behind, walk, walk_at_most, walk_behind, property_walk, properties_of}
use Rattle.spa_format.specs.Fixation.{walk_size}
use Rattle.spa_format.proofs.WalkLemmas.{walk-end}
use Rattle.spa_pod_commands.specs.Lines.{AreLines, Inside, Says, level_pods, line_of_pod, values_of, no_pods, pod}
use Rattle.spa_pod_commands.specs.declared.listing.Level.{Level}

-- what a walk finds takes no more bytes than there are
walked_bound : (n k : ℕ) (b : List ℕ) → walk_size (walk_at_most n k b) ≤ length b
walked_bound zero k b = omega arith
walked_bound (suc n) k b =
    let e = extent_behind k b in
    let step = walk_at_most n k (drop e b) in
    elim (leb_tells e (length b)) [
      | inl q ↦
          let is : walk_size (walk_at_most (suc n) k b) ≡ length (take e b) + walk_size step =
          ap (λ z. walk_size (if z then take e b ∷ step else [])) q.0 in
          let r = walked_bound n k (drop e b) in
          let d = length-drop e b in
          let t = length-take-le e b q.1 in
          omega (arith, is, r, d, t)
      | inr q ↦
          let is : walk_size (walk_at_most (suc n) k b) ≡ 0 = ap (λ z. walk_size (if z then take e b ∷ step else [])) q.0 in
          omega (arith, is)
    ]

walk_bound : (k : ℕ) (b : List ℕ) → walk_size (walk_behind k b) ≤ length b
unfolding walk_behind
walk_bound k b = walked_bound (length b) k b

values_bound : (ps : List (List ℕ)) → walk_size (values_of ps) ≤ walk_size ps
values_bound [] = omega arith
values_bound (p ∷ ps) = let d = length-drop 8 p in let r = values_bound ps in omega (arith, d, r)

-- what is inside a whole pod leaves room for its header
pub fields_fit : (p : List ℕ) → length p ≡ extent (word_at p 0) → walk_size (walk (body_of p)) + 8 ≤ length p
fields_fit p whole =
    let w = walk_bound 0 (body_of p) in
    let t = length-take (word_at p 0) (drop 8 p) in
    let d = length-drop 8 p in
    omega (arith, w, t, d, whole)

pub values_fit : (p : List ℕ) → length p ≡ extent (word_at p 0) → walk_size (values_of (property_walk (properties_of p))) + 8 ≤ length p
values_fit p whole =
    let v = values_bound (property_walk (properties_of p)) in
    let w = walk_bound 8 (properties_of p) in
    let t = length-take (word_at p 0) (drop 8 p) in
    let d = length-drop 8 p in
    let e = length-drop 8 (body_of p) in
    omega (arith, v, w, t, d, e, whole)

pub walk_nothing : walk [] ≡ []
walk_nothing = walk-end [] (λ f. let x = f.header in absurd (omega arith))

pub nothing_fits : (p : List ℕ) → length p ≡ extent (word_at p 0) → walk_size (walk []) + 8 ≤ length p
nothing_fits p whole = let e = ap walk_size walk_nothing in omega (arith, e, whole)

pub when_none : {A : Type 0} {P : Type 0} (r : Option A) → P → IfNone r P
when_none (Some x) p = tt
when_none None p = p

-- nothing is said, and what is said in two steps
pub says_nothing : (old : Option (List ℕ)) (waited : List ℕ) → Says old waited old waited []
says_nothing old waited = record { part = []; written = Appends-nil old; all = append-nil waited }

pub says_more : (a b c : Option (List ℕ)) (l m n x y : List ℕ) → Says a l b m x → Says b m c n y → Says a l c n (x ++ y)
says_more a b c l m n x y s t = record {
  part = s.part ++ t.part;
  written = known_more a b c s.part t.part s.written t.written;
  all =
      sym (append_assoc l x y)
      ∙ ap (λ z. z ++ y) s.all
      ∙ append_assoc s.part m y
      ∙ ap (λ z. s.part ++ z) t.all
      ∙ sym (append_assoc s.part t.part n);
}

-- the lines of what is left of levels, the innermost one's first; the outermost has this depth
abbrev pub Rest : ℕ → List Level → List ℕ → Type 0
Rest depth [] out = out ≡ []
Rest depth (l ∷ ls) out =
    (upper : List ℕ) × (lower : List ℕ) × (out ≡ upper ++ lower) × Rest (suc depth) ls upper × AreLines depth (level_pods l) lower

-- those of the innermost level come first
split : (d : ℕ) (ls : List Level) (l : Level) (out : List ℕ) → Rest d (ls ++ l ∷ []) out →
    (upper : List ℕ) × (lower : List ℕ) × (out ≡ upper ++ lower) × AreLines (length ls + d) (level_pods l) upper × Rest d ls lower
split d [] l out h =
    let e : d ≡ 0 + d = omega arith in
    (h.1, [], h.2 ∙ ap (λ z. z ++ h.1) h.3 ∙ sym (append-nil h.1), subst (λ n. AreLines n (level_pods l) h.1) e h.4, refl)
split d (k ∷ ls) l out h =
    let r = split (suc d) ls l h.0 h.3 in
    let e : length ls + suc d ≡ length (k ∷ ls) + d = omega arith in (
      r.0,
      r.1 ++ h.1,
      h.2 ∙ ap (λ z. z ++ h.1) r.2 ∙ append_assoc r.0 r.1 h.1,
      subst (λ n. AreLines n (level_pods l) r.0) e r.3,
      (r.1, h.1, refl, r.4, h.4),
    )

join : (d : ℕ) (ls : List Level) (l : Level) (upper lower : List ℕ) → AreLines (length ls + d) (level_pods l) upper → Rest d ls lower →
    Rest d (ls ++ l ∷ []) (upper ++ lower)
join d [] l upper lower lines h =
    let e : 0 + d ≡ d = omega arith in
    ([], upper, ap (λ z. upper ++ z) h ∙ append-nil upper, refl, subst (λ n. AreLines n (level_pods l) upper) e lines)
join d (k ∷ ls) l upper lower lines h =
    let e : length (k ∷ ls) + d ≡ length ls + suc d = omega arith in (
      upper ++ h.0,
      h.1,
      ap (λ z. upper ++ z) h.2 ∙ sym (append_assoc upper h.0 h.1),
      join (suc d) ls l upper h.0 (subst (λ n. AreLines n (level_pods l) upper) e lines) h.3,
      h.4,
    )

-- a pod was taken from the innermost level, its line made, and what is inside it opened
rest_before : (ls : List Level) (l k i : Level) (p rest : List ℕ) → level_pods l ≡ p ∷ level_pods k → Inside p (level_pods i) →
    Rest 0 ((ls ++ k ∷ []) ++ i ∷ []) rest → Rest 0 (ls ++ l ∷ []) (line_of_pod (length ls) p ++ rest)
rest_before ls l k i p rest el ins h =
    let n = length ls in
    let a = split 0 (ls ++ k ∷ []) i rest h in
    let b = split 0 ls k a.1 a.4 in
    let deep : length (ls ++ k ∷ []) + 0 ≡ suc n = (let la = length-append ls (k ∷ []) in omega (arith, la)) in
    let same : n + 0 ≡ n = omega arith in
    let line = line_of_pod n p in
    let lines : AreLines n (p ∷ level_pods k) (line ++ (a.0 ++ b.0)) =
    pod n p (level_pods k) (level_pods i) a.0 b.0 ins (subst (λ m. AreLines m (level_pods i) a.0) deep a.3)
    (subst (λ m. AreLines m (level_pods k) b.0) same b.3) in
    let whole : line ++ ((a.0 ++ b.0) ++ b.1) ≡ line ++ rest =
    ap (λ z. line ++ z) (append_assoc a.0 b.0 b.1 ∙ ap (λ z. a.0 ++ z) (sym b.2) ∙ sym a.2) in
    subst (Rest 0 (ls ++ l ∷ [])) (append_assoc line (a.0 ++ b.0) b.1 ∙ whole)
    (join 0 ls l (line ++ (a.0 ++ b.0)) b.1
    (subst (λ m. AreLines m (level_pods l) (line ++ (a.0 ++ b.0))) (sym same) (subst (λ q. AreLines n q (line ++ (a.0 ++ b.0))) (sym el) lines)) b.4)

-- a level without pods was closed
rest_closed : (ls : List Level) (l : Level) (rest : List ℕ) → level_pods l ≡ [] → Rest 0 ls rest → Rest 0 (ls ++ l ∷ []) rest
rest_closed ls l rest el h = join 0 ls l [] rest (subst (λ q. AreLines (length ls + 0) q []) (sym el) (no_pods (length ls + 0))) h

-- how far the loop is: this was said, and with the lines of what is left these are the lines of the input
pub record SoFar (all : List ℕ) (old : Option (List ℕ)) (waited : List ℕ) (new : Option (List ℕ)) (waiting : List ℕ) (levels : List Level) : Type 0 where
  pub said : List ℕ
  pub says : Says old waited new waiting said
  pub left : (rest : List ℕ) → Rest 0 levels rest → AreLines 0 (walk all) (said ++ rest)

pub begins : (all : List ℕ) (old : Option (List ℕ)) (waited : List ℕ) (levels before : List Level) (l : Level) → levels ≡ before ++ l ∷ [] → before ≡ [] →
    level_pods l ≡ walk all → SoFar all old waited old waited levels
begins all old waited levels before l e none el = record {
  said = [];
  says = says_nothing old waited;
  left = λ rest h.
      let s = subst (λ z. Rest 0 z rest) (e ∙ ap (λ z. z ++ l ∷ []) none) h in
      subst (AreLines 0 (walk all)) (sym (s.2 ∙ ap (λ z. z ++ s.1) s.3)) (subst (λ q. AreLines 0 q s.1) el s.4);
}

pub taken : (all : List ℕ) (old mid new : Option (List ℕ)) (waited waiting more : List ℕ) (before after ls : List Level) (l k i : Level) (p : List ℕ) →
    before ≡ ls ++ l ∷ [] → after ≡ (ls ++ k ∷ []) ++ i ∷ [] → level_pods l ≡ p ∷ level_pods k → Inside p (level_pods i) →
    SoFar all old waited mid waiting before → Says mid waiting new more (line_of_pod (length ls) p) → SoFar all old waited new more after
taken all old mid new waited waiting more before after ls l k i p eb ea el ins so says = record {
  said = so.said ++ line_of_pod (length ls) p;
  says = says_more old mid new waited waiting more so.said (line_of_pod (length ls) p) so.says says;
  left = λ rest h.
      subst (AreLines 0 (walk all)) (sym (append_assoc so.said (line_of_pod (length ls) p) rest))
      (so.left (line_of_pod (length ls) p ++ rest)
      (subst (λ z. Rest 0 z (line_of_pod (length ls) p ++ rest)) (sym eb) (rest_before ls l k i p rest el ins (subst (λ z. Rest 0 z rest) ea h))));
}

pub closed : (all : List ℕ) (old new : Option (List ℕ)) (waited waiting : List ℕ) (before ls : List Level) (l : Level) →
    before ≡ ls ++ l ∷ [] → level_pods l ≡ [] → SoFar all old waited new waiting before → SoFar all old waited new waiting ls
closed all old new waited waiting before ls l eb el so = record {
  said = so.said;
  says = so.says;
  left = λ rest h. so.left rest (subst (λ z. Rest 0 z rest) (sym eb) (rest_closed ls l rest el h));
}

pub ends : (all : List ℕ) (old new : Option (List ℕ)) (waited waiting : List ℕ) (levels : List Level) → levels ≡ [] → SoFar all old waited new waiting levels →
    (out : List ℕ) × AreLines 0 (walk all) out × Says old waited new waiting out
ends all old new waited waiting levels e so =
    (so.said, subst (AreLines 0 (walk all)) (append-nil so.said) (so.left [] (subst (λ z. Rest 0 z []) (sym e) refl)), so.says)

-- what is left to do: each pod's bytes, and a step for each level
abbrev pub weight : List Level → ℕ
weight [] = 0
weight (l ∷ ls) = suc (walk_size (level_pods l)) + weight ls

weight_last : (ls : List Level) (l : Level) → weight (ls ++ l ∷ []) ≡ suc (walk_size (level_pods l)) + weight ls
weight_last [] l = refl
weight_last (k ∷ ls) l = let r = weight_last ls l in omega (arith, r)

pub lighter_taken : (before after ls : List Level) (l k i : Level) (p : List ℕ) → before ≡ ls ++ l ∷ [] → after ≡ (ls ++ k ∷ []) ++ i ∷ [] →
    level_pods l ≡ p ∷ level_pods k → walk_size (level_pods i) + 8 ≤ length p → weight after < weight before
lighter_taken before after ls l k i p eb ea el fits =
    let b = ap weight eb in
    let a = ap weight ea in
    let w0 = weight_last ls l in
    let w1 = weight_last (ls ++ k ∷ []) i in
    let w2 = weight_last ls k in
    let s = ap walk_size el in
    omega (arith, b, a, w0, w1, w2, s, fits)

pub lighter_closed : (before ls : List Level) (l : Level) → before ≡ ls ++ l ∷ [] → weight ls < weight before
lighter_closed before ls l eb = let b = ap weight eb in let w = weight_last ls l in omega (arith, b, w)
