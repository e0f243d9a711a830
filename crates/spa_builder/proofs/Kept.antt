-- The frames as they are kept: the innermost one apart.
use Rattle.std.proofs.Common.{◌≡◌, ◌≢◌, ℕ, ◌+◌, ◌-◌, ◌<◌, ◌^◌, List, [], ◌∷◌, ◌++◌, length, refl, sym, ap, suc, ◌∙◌, arith, length-append, Bool, true, false}
use Rattle.std.specs.Prelude.{nat_eq, nat_lt, cond}
use Rattle.std.proofs.lemmas.Bool.Decides.{nat_tests}
use Rattle.std.proofs.lemmas.Bool.{false_from_ne_true}
use Rattle.std.proofs.lemmas.List.{same_from_push}
use Rattle.spa_builder.specs.State.{Partial, open_struct, open_object, open_property, open_array, open_choice}
use Rattle.spa_builder.specs.Fields.{all_so_far, frames_of, what_of}
use Rattle.spa_builder.specs.Framed.{IsKept, at_stage, frames_in, is_nothing, most_bytes}
use Rattle.spa_builder.specs.Innermost.{has_room_for}
use Rattle.spa_builder.specs.declared.begun.BegunPod.{BegunPod}
use Rattle.spa_builder.specs.declared.begun.Stage.{Stage}
use Rattle.spa_builder.proofs.FrameLists.{outermost_is}
use Rattle.spa_builder.proofs.Sizes.{at_least_8, same_test}

no_last : (xs : List BegunPod) (x : BegunPod) → xs ++ x ∷ [] ≡ [] → ⊥
no_last xs x e = let l = ap length e in let m = length-append xs (x ∷ []) in omega arith

pub what_something : (p : Partial) → is_nothing (what_of p) ≡ false
what_something (open_struct vs) = refl
what_something (open_object t i ps) = refl
what_something (open_property t i ps k f) = refl
what_something (open_array xs) = refl
what_something (open_choice h f xs) = refl

pub frames_with : (outer : List BegunPod) (o : BegunPod) → is_nothing o.what ≡ false →
    frames_in outer o ≡ outer ++ o ∷ []
frames_with outer o h = ap (λ b. cond b outer (outer ++ o ∷ [])) h

pub frames_without : (outer : List BegunPod) (o : BegunPod) → is_nothing o.what ≡ true →
    frames_in outer o ≡ outer
frames_without outer o h = ap (λ b. cond b outer (outer ++ o ∷ [])) h

-- where a tree is begun, something is innermost
begun_something : (outer : List BegunPod) (o : BegunPod) (first most base : ℕ) (p : Partial)
    (ps : List Partial) → IsKept outer o first most → frames_in outer o ≡ frames_of base (p ∷ ps) →
    is_nothing o.what ≡ false
begun_something outer o first most base p ps k e =
    false_from_ne_true (is_nothing o.what) (λ h. no_last _ _ (sym e ∙ frames_without outer o h ∙ k.none h))

-- where the outermost tree begins, and from which length on its size word can't hold it
pub record Outermost (first end base : ℕ) (ps : List Partial) : Type 0 where
  pub place : first ≡ base
  pub some : 0 < length ps
  pub alone : length ps ≡ 1 → end ≡ first + most_bytes true
  pub around : length ps ≢ 1 → end ≡ first + most_bytes false
  pub low : first < 2 ^ 63

pub outermost_kept : (outer : List BegunPod) (o : BegunPod) (first most base : ℕ) (ps : List Partial) →
    IsKept outer o first most → is_nothing o.what ≡ false → frames_in outer o ≡ frames_of base ps →
    Outermost first most base ps
outermost_kept [] o first most base ps k h e =
    let f = sym (frames_with [] o h) ∙ e in
    let w = outermost_is (o ∷ []) base ps o f refl in
    let l = w.1 in
    record {
      place = (k.only refl).0 ∙ w.0;
      some = w.2;
      alone = λ n. (k.only refl).1;
      around = λ n. absurd (n (sym l));
      low = k.low;
    }
outermost_kept (q ∷ rest) o first most base ps k h e =
    let f = sym (frames_with (q ∷ rest) o h) ∙ e in
    let w = outermost_is (q ∷ (rest ++ o ∷ [])) base ps q f refl in
    let l = w.1 in
    let m = length-append rest (o ∷ []) in
    record {
      place = (k.more q rest refl).0 ∙ w.0;
      some = w.2;
      alone = λ n. absurd (omega arith);
      around = λ n. (k.more q rest refl).1;
      low = k.low;
    }

pub room_kept : (first end base : ℕ) (ps : List Partial) (more n : ℕ) →
    Outermost first end base ps → n ≡ base + length (all_so_far ps) + more →
    nat_lt n end ≡ has_room_for more ps
room_kept first end base [] more n o e = let z = o.some in absurd (omega arith)
room_kept first end base (p ∷ []) more n o e =
    let l = at_least_8 p [] in
    let f = o.place in
    ap (nat_lt n) (o.alone refl)
    ∙ same_test n (length (all_so_far (p ∷ [])) - 8 + more) (first + (2 ^ 32 + 8)) (2 ^ 32)
    (λ h. omega arith) (λ h. omega arith)
room_kept first end base (p ∷ q ∷ qs) more n o e =
    let l = at_least_8 p (q ∷ qs) in
    let f = o.place in
    let two : length (p ∷ q ∷ qs) ≢ 1 = λ x. omega arith in
    ap (nat_lt n) (o.around two)
    ∙ same_test n (length (all_so_far (p ∷ q ∷ qs)) - 8 + more) (first + (2 ^ 32 + 8 - 7))
    (2 ^ 32 - 7) (λ h. omega arith) (λ h. omega arith)

-- one more is begun in the innermost
pub pushed_kept : (outer more : List BegunPod) (o new : BegunPod) (first end most : ℕ) →
    IsKept outer o first end → is_nothing o.what ≡ false → is_nothing new.what ≡ false →
    more ≡ outer ++ o ∷ [] → most ≡ most_bytes false → IsKept more new first (first + most)
pushed_kept [] more o new first end most k h n e m = record {
  none = λ t. cc;
  only = λ z. absurd (no_last [] o (sym e ∙ z));
  more = λ x rest w.
      let same : o ∷ [] ≡ x ∷ rest = sym e ∙ w in
      let head : o ≡ x = cc in
      ((k.only refl).0 ∙ ap (λ y. y.start) head, ap (λ y. first + y) m);
  low = k.low;
}
pushed_kept (q ∷ qs) more o new first end most k h n e m = record {
  none = λ t. cc;
  only = λ z. absurd (no_last (q ∷ qs) o (sym e ∙ z));
  more = λ x rest w.
      let same : q ∷ (qs ++ o ∷ []) ≡ x ∷ rest = sym e ∙ w in
      let head : q ≡ x = cc in
      ((k.more q qs refl).0 ∙ ap (λ y. y.start) head, ap (λ y. first + y) m);
  low = k.low;
}

-- the innermost one says something else
pub set_kept : (outer : List BegunPod) (o new : BegunPod) (first most base : ℕ) (p q : Partial)
    (ps : List Partial) → IsKept outer o first most → frames_in outer o ≡ frames_of base (p ∷ ps) →
    new.start ≡ o.start → new.what ≡ what_of q → frames_in outer new ≡ frames_of base (q ∷ ps)
set_kept outer o new first most base p q ps k e s w =
    let h = begun_something outer o first most base p ps k e in
    let r = same_from_push outer (frames_of base ps) o _ (sym (frames_with outer o h) ∙ e) in
    let n : is_nothing new.what ≡ false = ap is_nothing w ∙ what_something q in
    let at : o.start ≡ base + length (all_so_far ps) = ap (λ (x : BegunPod). x.start) r.1 in
    let same : new ≡ record { start = base + length (all_so_far ps); what = what_of q } =
    rw (s ∙ at, w) refl in
    frames_with outer new n ∙ ap (λ l. l ++ new ∷ []) r.0
    ∙ ap (λ x. frames_of base ps ++ x ∷ []) same

-- the innermost one is at another stage
pub stage_kept : (outer : List BegunPod) (o new : BegunPod) (stage : Stage) (first most base : ℕ)
    (p q : Partial) (ps : List Partial) → IsKept outer o first most →
    frames_in outer o ≡ frames_of base (p ∷ ps) → new.start ≡ o.start →
    new.what ≡ at_stage o.what stage → at_stage (what_of p) stage ≡ what_of q →
    frames_in outer new ≡ frames_of base (q ∷ ps)
stage_kept outer o new stage first most base p q ps k e s w h =
    let b = begun_something outer o first most base p ps k e in
    let r = same_from_push outer (frames_of base ps) o _ (sym (frames_with outer o b) ∙ e) in
    let was : o.what ≡ what_of p = ap (λ (x : BegunPod). x.what) r.1 in
    set_kept outer o new first most base p q ps k e s (w ∙ ap (λ x. at_stage x stage) was ∙ h)

-- the innermost one is dropped, and there is another one
pub popped_some : (outer rest : List BegunPod) (o next : BegunPod) (first most base : ℕ) (p : Partial)
    (ps : List Partial) → IsKept outer o first most → frames_in outer o ≡ frames_of base (p ∷ ps) →
    outer ≡ rest ++ next ∷ [] →
    (is_nothing next.what ≡ false) × (frames_in rest next ≡ frames_of base ps)
popped_some outer rest o next first most base p [] k e f =
    let h = begun_something outer o first most base p [] k e in
    let r = same_from_push outer [] o _ (sym (frames_with outer o h) ∙ e) in
    absurd (no_last rest next (sym f ∙ r.0))
popped_some outer rest o next first most base p (q ∷ qs) k e f =
    let h = begun_something outer o first most base p (q ∷ qs) k e in
    let r = same_from_push outer (frames_of base (q ∷ qs)) o _ (sym (frames_with outer o h) ∙ e) in
    let g = sym f ∙ r.0 in
    let t = same_from_push rest (frames_of base qs) next _ g in
    let n : is_nothing next.what ≡ false = ap (λ (x : BegunPod). is_nothing x.what) t.1
    ∙ what_something q in
    (n, frames_with rest next n ∙ g)

some_rest : (rest : List BegunPod) (next q : BegunPod) (r : List BegunPod) → rest ≡ q ∷ r →
    rest ++ next ∷ [] ≡ q ∷ (r ++ next ∷ [])
some_rest rest next q r e = ap (λ l. l ++ next ∷ []) e

pub still_kept : (outer rest : List BegunPod) (o next : BegunPod) (first most most' : ℕ) →
    IsKept outer o first most → outer ≡ rest ++ next ∷ [] → is_nothing next.what ≡ false →
    (rest ≡ [] → most' ≡ first + most_bytes true) →
    ((q : BegunPod) (r : List BegunPod) → rest ≡ q ∷ r → most' ≡ first + most_bytes false) →
    IsKept rest next first most'
still_kept outer rest o next first most most' k f n alone around = record {
  none = λ h. absurd (cc (n, h));
  only = λ e. ((k.more next [] (f ∙ ap (λ l. l ++ next ∷ []) e)).0, alone e);
  more = λ q r e. ((k.more q (r ++ next ∷ []) (f ∙ some_rest rest next q r e)).0, around q r e);
  low = k.low;
}

not_zero : (n m : ℕ) → n ≡ suc m → nat_eq n 0 ≡ false
not_zero n m e = grind (arith, nat_tests)

pub most_kept : (most : ℕ) (alone : Bool) (n : ℕ) (xs : List BegunPod) → most ≡ most_bytes alone →
    alone ≡ nat_eq n 0 → n ≡ length xs →
    (xs ≡ [] → most ≡ most_bytes true) × ((q : BegunPod) (rest : List BegunPod) → xs ≡ q ∷ rest →
    most ≡ most_bytes false)
most_kept most alone n [] e f l =
    (λ h. e ∙ ap most_bytes (f ∙ ap (λ m. nat_eq m 0) l), λ q rest h. absurd (cc))
most_kept most alone n (x ∷ xs) e f l =
    (λ h. absurd (cc), λ q rest h. e ∙ ap most_bytes (f ∙ not_zero n _ l))
