-- How far the work on an input is that no refused pod ends.
use Rattle.std.proofs.Common.{◌≡◌, ◌∙◌, ◌+◌, ◌*◌, ◌≤◌, ◌⊎◌, ℕ, List, [], ◌++◌, Option, append_assoc, append-nil, ap, arith, drop, inl, inr, length, length-append, length-take, refl, subst, sym, take, take-append-drop}
use Rattle.std.proofs.KnownBytes.{Appends-kept, Appends-nil, Consumes-nil, Consumes-trans}
use Rattle.std.specs.Prelude.{IfErr, OnOk, Result, Ok, Err, ⊤}
use Rattle.std.specs.Io.KnownBytes.{Appends, Consumes, IsAtEnd, Keeps}
use Rattle.spa_device.specs.CountingLaws.{known_more}
use Rattle.spa_device.specs.Whole.{IsAllOf}
use Rattle.spa_format.specs.Walk.{walk}
use Rattle.spa_recordings.specs.Blocks.{AreWhole, IsReadFailure, ReadsOn, no_pods}
use Rattle.spa_recordings.specs.Passing.{AreBlocks, IsWrittenTill, StopsAtBlock, StopsWork, WorksThrough, nothing, one_more}
use Rattle.spa_recordings.specs.declared.streaming.Stop.{Stop}
use Rattle.spa_recordings.specs.declared.streaming.Stop.TheVariants.{Pod, OutOfMemory, ReadFailed, WriteFailed}
use Rattle.spa_recordings.proofs.Holding.{all_of, count_joined, few_whole, none_counted, none_unread, unread_of, whole_joined}
use Rattle.spa_recordings.proofs.Streamed.{begun_behind}

module _ (State : Type 0) (Works : State → State → (count place : ℕ) → (block out : List ℕ) → Type 0) (start : State) where
  -- some bytes were passed, what is made of them was written, and these are held behind them
  pub record PassedSoFar (state : State) (remaining now : Option (List ℕ)) (held : List ℕ) (count place : ℕ) (old new : Option (List ℕ)) : Type 0 where
    pub passed : List ℕ
    pub out : List ℕ
    pub made : AreBlocks Works start state passed out
    pub whole : AreWhole passed
    pub its_count : count ≡ length (walk passed)
    pub its_place : place ≡ length passed
    pub written : Appends old new out
    pub read : Consumes remaining now (passed ++ held)

  pub begins : (remaining old : Option (List ℕ)) (held : List ℕ) → held ≡ [] → PassedSoFar start remaining remaining held 0 0 old old
  begins remaining old held none = record {
    passed = [];
    out = [];
    made = nothing;
    whole = no_pods;
    its_count = sym none_counted;
    its_place = refl;
    written = Appends-nil old;
    read = subst (Consumes remaining remaining) (sym none) (Consumes-nil remaining);
  }

  -- more was read
  pub reads : (state : State) (remaining now after : Option (List ℕ)) (held more : List ℕ) (count place : ℕ) (old new : Option (List ℕ)) →
      ReadsOn now after held more → PassedSoFar state remaining now held count place old new → PassedSoFar state remaining after more count place old new
  reads state remaining now after held more count place old new r so = record {
    passed = so.passed;
    out = so.out;
    made = so.made;
    whole = so.whole;
    its_count = so.its_count;
    its_place = so.its_place;
    written = so.written;
    read =
        subst (Consumes remaining after) (append_assoc so.passed held r.0 ∙ ap (λ l. so.passed ++ l) (sym r.2))
        (Consumes-trans remaining now after (so.passed ++ held) r.0 so.read r.1);
  }

  -- there are fewer pods than bytes
  pub few_passed : (state : State) (remaining now : Option (List ℕ)) (held : List ℕ) (count place : ℕ) (old new : Option (List ℕ)) →
      PassedSoFar state remaining now held count place old new → count * 8 ≤ place
  few_passed state remaining now held count place old new so =
      let c = so.its_count in let p = so.its_place in let f = few_whole so.passed in omega (arith, c, p, f)

  -- what is made of a block behind those that were passed
  behind : (state after : State) (remaining now : Option (List ℕ)) (held : List ℕ) (count place : ℕ) (old new : Option (List ℕ)) (block made : List ℕ)
      (so : PassedSoFar state remaining now held count place old new) → Works state after count place block made →
      AreBlocks Works start after (so.passed ++ block) (so.out ++ made)
  behind state after remaining now held count place old new block made so w =
      one_more state after so.passed block so.out made so.made so.whole
      (subst (λ z. Works state after z (length so.passed) block made) so.its_count
      (subst (λ z. Works state after count z block made) so.its_place w))

  -- a block was worked on and passed
  pub passes : (state after : State) (remaining now : Option (List ℕ)) (held : List ℕ) (count place len pods next all : ℕ) (old mid new : Option (List ℕ))
      (block more made : List ℕ) → len ≤ length held → block ≡ take len held → AreWhole (take len held) → pods ≡ length (walk (take len held)) →
      next ≡ place + len → all ≡ count + pods → more ≡ drop len held → Works state after count place block made → Appends mid new made →
      PassedSoFar state remaining now held count place old mid → PassedSoFar after remaining now more all next old new
  passes state after remaining now held count place len pods next all old mid new block more made l is whole n b a m w out so =
      let p = so.its_place in
      let c = so.its_count in
      let j = length-append so.passed (take len held) in
      let t = length-take len held in
      let k = count_joined so.passed (take len held) so.whole in
      record {
        passed = so.passed ++ take len held;
        out = so.out ++ made;
        made =
            subst (λ z. AreBlocks Works start after (so.passed ++ z) (so.out ++ made)) is
            (behind state after remaining now held count place old mid block made so w);
        whole = whole_joined so.passed (take len held) so.whole whole;
        its_count = omega (arith, c, k, n, a);
        its_place = omega (arith, p, j, t, l, b);
        written = known_more old mid new so.out made so.written out;
        read =
            subst (Consumes remaining now)
            (ap (λ z. so.passed ++ z) (sym (take-append-drop len held)) ∙ sym (append_assoc so.passed (take len held) (drop len held))
            ∙ ap (λ z. (so.passed ++ take len held) ++ z) (sym m))
            so.read;
      }

  -- the input as far as it is known
  input_is : (state : State) (remaining now : Option (List ℕ)) (held : List ℕ) (count place : ℕ) (old new : Option (List ℕ))
      (so : PassedSoFar state remaining now held count place old new) → IsAllOf remaining (so.passed ++ (held ++ unread_of now))
  input_is state remaining now held count place old new so =
      subst (IsAllOf remaining) (append_assoc so.passed held (unread_of now)) (all_of remaining now (so.passed ++ held) so.read)

  -- the work ended with nothing more written
  ended : (state : State) (remaining now : Option (List ℕ)) (held : List ℕ) (count place : ℕ) (old new : Option (List ℕ)) (why : Stop) →
      ((out : List ℕ) → Appends old new out → IsWrittenTill why old new out) → PassedSoFar state remaining now held count place old new →
      StopsWork Works start remaining old new why
  ended state remaining now held count place old new why written so = record {
    input = so.passed ++ (held ++ unread_of now);
    its = input_is state remaining now held count place old new so;
    first = so.passed;
    left = held ++ unread_of now;
    parts = refl;
    behind = inl so.whole;
    state = state;
    out = so.out;
    made = so.made;
    written = written so.out so.written;
  }

  -- reading failed
  pub fails : (state : State) (remaining now : Option (List ℕ)) (held : List ℕ) (count place : ℕ) (old new : Option (List ℕ)) (why : Stop) →
      IsReadFailure why → PassedSoFar state remaining now held count place old new → StopsWork Works start remaining old new why
  fails state remaining now held count place old new why (inl e) so =
      ended state remaining now held count place old new why
      (λ out w. subst (λ z. IsWrittenTill z old new out) (sym e) w) so
  fails state remaining now held count place old new why (inr e) so =
      ended state remaining now held count place old new why
      (λ out w. subst (λ z. IsWrittenTill z old new out) (sym e) w) so

  kept : (state : State) (remaining now : Option (List ℕ)) (held : List ℕ) (count place : ℕ) (old mid new : Option (List ℕ)) → Keeps mid new →
      PassedSoFar state remaining now held count place old mid → PassedSoFar state remaining now held count place old new
  kept state remaining now held count place old mid new k so = record {
    passed = so.passed;
    out = so.out;
    made = so.made;
    whole = so.whole;
    its_count = so.its_count;
    its_place = so.its_place;
    written = Appends-kept old mid new so.out so.written k;
    read = so.read;
  }

  -- a block isn't worked on: whole pods, or what is left
  pub stops : (state : State) (remaining now : Option (List ℕ)) (held block left : List ℕ) (count place : ℕ) (old mid new : Option (List ℕ)) (why : Stop) →
      held ≡ block ++ left → (AreWhole block ⊎ ((left ≡ []) × IsAtEnd now)) →
      StopsAtBlock (λ out. (after : State) × Works state after count place block out) mid new why →
      PassedSoFar state remaining now held count place old mid → StopsWork Works start remaining old new why
  stops state remaining now held block left count place old mid new (Pod number at read) e b s so = absurd s
  stops state remaining now held block left count place old mid new OutOfMemory e b s so =
      fails state remaining now held count place old new OutOfMemory (inl refl) (kept state remaining now held count place old mid new s so)
  stops state remaining now held block left count place old mid new ReadFailed e b s so =
      fails state remaining now held count place old new ReadFailed (inr refl) (kept state remaining now held count place old mid new s so)
  stops state remaining now held block left count place old mid new WriteFailed e b s so = record {
    input = so.passed ++ (held ++ unread_of now);
    its = input_is state remaining now held count place old mid so;
    first = so.passed ++ block;
    left = left ++ unread_of now;
    parts =
        ap (λ z. so.passed ++ (z ++ unread_of now)) e ∙ ap (λ z. so.passed ++ z) (append_assoc block left (unread_of now))
        ∙ sym (append_assoc so.passed block (left ++ unread_of now));
    behind = whole_or_all b;
    state = s.1.0;
    out = so.out ++ s.0;
    made = behind state s.1.0 remaining now held count place old mid block s.0 so s.1.1;
    written = begun_behind old mid new so.out s.0 s.3 so.written s.2 s.4;
  }
    where
      whole_or_all : (AreWhole block ⊎ ((left ≡ []) × IsAtEnd now)) → AreWhole (so.passed ++ block) ⊎ (left ++ unread_of now ≡ [])
      whole_or_all (inl w) = inl (whole_joined so.passed block so.whole w)
      whole_or_all (inr n) = inr (ap (λ z. z ++ unread_of now) n.0 ∙ none_unread now n.1)

  -- the input ended, and what was left of it was worked on, or wasn't
  pub closes : (state after : State) (remaining now : Option (List ℕ)) (held block : List ℕ) (count place : ℕ) (old mid new : Option (List ℕ))
      (r : Result ⊤ Stop) → IsAtEnd now → block ≡ held →
      OnOk r ((made : List ℕ) × Works state after count place block made × Appends mid new made) →
      IfErr r (StopsAtBlock (λ out. (last : State) × Works state last count place block out) mid new) →
      PassedSoFar state remaining now held count place old mid →
      OnOk r (WorksThrough Works start after remaining old new) × IfErr r (StopsWork Works start remaining old new)
  closes state after remaining now held block count place old mid new (Ok u) end is w s so = (
    record {
      input = so.passed ++ (held ++ unread_of now);
      read = input_is state remaining now held count place old mid so;
      out = so.out ++ w.0;
      made =
          subst (λ z. AreBlocks Works start after (so.passed ++ z) (so.out ++ w.0))
          (is ∙ sym (append-nil held) ∙ ap (λ z. held ++ z) (sym (none_unread now end)))
          (behind state after remaining now held count place old mid block w.0 so w.1);
      written = known_more old mid new so.out w.0 so.written w.2;
    },
    tt,
  )
  closes state after remaining now held block count place old mid new (Err why) end is w s so = (
    tt,
    stops state remaining now held block [] count place old mid new why (sym is ∙ sym (append-nil block)) (inr (refl, end)) s so,
  )
