-- How far the work on an input is that is written block by block.
use Rattle.std.proofs.Common.{◌≡◌, ◌≢◌, ◌∙◌, ◌+◌, ◌*◌, ◌-◌, ◌<◌, ◌≤◌, ℕ, List, [], ◌∷◌, ◌++◌, Option, Bool, true, false, ◌&&◌, append_assoc, append-nil, ap, arith, drop, inl, inr, length, length-append, length-take, refl, subst, sym, take, take-append-drop, true≢false}
use Rattle.std.proofs.lemmas.List.{nil_from_length, take_all, take_at}
use Rattle.std.proofs.Math.Seq.{take-append-add}
use Rattle.std.proofs.KnownBytes.{Appends-kept, Appends-nil, Consumes-nil, Consumes-trans}
use Rattle.std.specs.Prelude.{Decides, IfErr, IfOk, Result, Ok, Err}
use Rattle.std.specs.Io.KnownBytes.{Appends, Consumes, IsAtEnd, Keeps}
use Rattle.spa_device.specs.CountingLaws.{known_more}
use Rattle.spa_device.specs.Whole.{IsAllOf}
use Rattle.spa_format.specs.Front.{HasFront}
use Rattle.spa_format.specs.Typed.{IsBytes}
use Rattle.spa_format.specs.Walk.{walk}
use Rattle.spa_recordings.specs.Blocks.{AreWhole, IsReadFailure, ReadsOn, no_pods}
use Rattle.spa_recordings.specs.Reading.{IsAccepted, IsLeftOf, IsNoPod, IsNothing, IsUnreadAt, ReadsAs}
use Rattle.spa_recordings.specs.Streaming.{AreRead, BeginsBlock, BeginsMade, IsEnded, IsFound, IsRefusedAhead, MakesAs, MakesFirst, Stops, StopsAtPod, StopsInBlock, Streams, WritesMade, WritesRead}
use Rattle.spa_recordings.specs.declared.reading.Reading.{Reading}
use Rattle.spa_recordings.specs.declared.reading.Reading.TheVariants.{Exact, Lenient}
use Rattle.spa_recordings.specs.declared.streaming.Before.{Before}
use Rattle.spa_recordings.specs.declared.streaming.Found.{Found}
use Rattle.spa_recordings.specs.declared.streaming.Made.{Made}
use Rattle.spa_recordings.specs.declared.streaming.Written.{Written}
use Rattle.spa_recordings.specs.declared.streaming.Stop.{Stop}
use Rattle.spa_recordings.specs.declared.streaming.Stop.TheVariants.{Pod, OutOfMemory, ReadFailed, WriteFailed}
use Rattle.spa_recordings.proofs.Holding.{all_of, count_joined, few_whole, none_counted, none_unread, nothing_longer, nothing_read, pods_walked, reads_joined, unread_of, values_conveyed, whole_behind, whole_front, whole_joined}

-- ---- A block

-- what is made of the pods as which a block is read is made of it
pub read_made : (reading : Reading) (Makes : List ℕ → List ℕ → ℕ → Type 0) (block : List ℕ) (old new : Option (List ℕ)) (w : Written) →
    WritesRead reading Makes block old new w → WritesMade (MakesAs reading Makes) block old new w.made
read_made reading Makes block old new w h =
    let few = h.made.few in
    let within = h.read.within in
    record { out = h.made.out; made = (h.pods, h.read.read, h.made.made); nothing = h.made.nothing; written = h.made.written; few = omega (arith, few, within) }

pub are_read : (reading : Reading) (block pods : List ℕ) → IsBytes block → length pods ≤ length block → ReadsAs reading block pods → AreRead reading block pods
are_read reading block pods f within r =
    let w = pods_walked reading block pods f r in record { read = r; within = within; whole = w.0; counted = w.1 }

pub read_written : (reading : Reading) (Makes : List ℕ → List ℕ → ℕ → Type 0) (block after : List ℕ) (len : ℕ) (made : Made) (old new : Option (List ℕ)) →
    len ≤ length block → length after ≡ length block → AreRead reading block (take len after) →
    WritesMade Makes (take len after) old new made → WritesRead reading Makes block old new (record { made = made; len = len })
read_written reading Makes block after len made old new within long r h =
    let t = length-take len after in record { pods = take len after; read = r; its_len = omega (arith, t, within, long); made = h }

-- behind some first pods stands one that isn't read
pub left_of : (reading : Reading) (input left : List ℕ) → IsLeftOf reading input left →
    (first : List ℕ) × (input ≡ first ++ left) × IsAccepted reading first × (left ≢ [])
left_of Exact input left h = (h.1, h.2, (h.0, h.3), h.4)
left_of Lenient input left h = (h.1, h.2, (h.0, h.3), h.4)

pub nothing_of : (reading : Reading) (left kind : List ℕ) → IsNoPod reading left kind → IsNothing reading left
nothing_of Exact left kind h = h.0
nothing_of Lenient left kind h = h.0

pub found_at : (reading : Reading) (block left before kind : List ℕ) (found : Found) → IsUnreadAt reading block left kind →
    found.at ≡ length block - length left → before ≡ take found.at block → found.before ≡ length (walk before) → found.read.items ≡ left →
    IsFound reading block found
found_at reading block left before kind found u at is counted bytes =
    let b = left_of reading block left u.0 in
    let e = ap length b.1 in
    let l = length-append b.0 left in
    let same : before ≡ b.0 = is ∙ ap (take found.at) b.1 ∙ take_at b.0 left found.at (omega (arith, at, e, l)) in
    record {
      first = b.0;
      left = left;
      parts = b.1;
      accepted = b.2;
      some = b.3;
      no_pod = nothing_of reading left kind u.1;
      count = counted ∙ ap (λ z. length (walk z)) same;
      place = omega (arith, at, e, l);
      its_bytes = bytes;
    }

-- and what stands before it
before_found : (reading : Reading) (block part : List ℕ) (found : Found) (f : IsFound reading block found) → part ≡ take found.at block → part ≡ f.first
before_found reading block part found f is = is ∙ ap (take found.at) f.parts ∙ take_at f.first f.left found.at (sym f.place)

pub few_before : (reading : Reading) (block : List ℕ) (found : Found) → IsFound reading block found →
    (found.before ≤ found.at) × (found.at < length block)
few_before reading block found f =
    let c = f.count in
    let p = f.place in
    let w = few_whole f.first in
    let e = ap length f.parts in
    let l = length-append f.first f.left in
    let some : ¬ (length f.left ≡ 0) = λ z. f.some (nil_from_length f.left z) in
    (omega (arith, c, p, w), omega (arith, p, e, l, some))

pub stops_at : (reading : Reading) (Refuses : Type 0) (Makes : List ℕ → List ℕ → ℕ → Type 0) (before : Before) (number at : ℕ) (block part read : List ℕ)
    (old new : Option (List ℕ)) (found : Found) (w : Written) → Refuses → IsFound reading block found → part ≡ take found.at block →
    number ≡ before.count + found.before + 1 → at ≡ before.place + found.at → read ≡ found.read.items → WritesRead reading Makes part old new w →
    StopsAtPod reading Refuses (MakesAs reading Makes) before block old new number at read
stops_at reading Refuses Makes before number at block part read old new found w refuses f is n p same h =
    let c = f.count in
    let q = f.place in
    record {
      refuses = refuses;
      first = f.first;
      left = f.left;
      parts = f.parts;
      accepted = f.accepted;
      some = f.some;
      no_pod = f.no_pod;
      its_number = omega (arith, n, c);
      its_place = omega (arith, p, q);
      its_bytes = same ∙ f.its_bytes;
      its = w.made;
      written =
          subst (λ z. WritesMade (MakesAs reading Makes) z old new w.made) (before_found reading block part found f is)
          (read_made reading Makes part old new w h);
    }

-- what was begun to be written of a first part of a block
pub begins_at : (Makes : List ℕ → List ℕ → ℕ → Type 0) (block part : List ℕ) (n : ℕ) (old new : Option (List ℕ)) → part ≡ take n block →
    BeginsMade Makes part old new → BeginsBlock Makes block old new
begins_at Makes block part n old new is s = (
  drop n block,
  s.0,
  record { first = part; parts = sym (take-append-drop n block) ∙ ap (λ z. z ++ drop n block) (sym is); refused = s.1; made = s.2 },
  s.3,
  s.4,
  s.5,
)

pub some_joined : (xs ys : List ℕ) → xs ≢ [] → xs ++ ys ≢ []
some_joined [] ys n e = n refl
some_joined (x ∷ xs) ys n e = let l = ap length e in omega (arith, l)

pub some_behind : (xs ys : List ℕ) → ys ≢ [] → xs ++ ys ≢ []
some_behind [] ys n e = n e
some_behind (x ∷ xs) ys n e = let l = ap length e in omega (arith, l)

-- what was begun to be written behind what was written
pub begun_behind : (old mid new : Option (List ℕ)) (out made : List ℕ) (n : ℕ) → Appends old mid out → made ≢ [] → Appends mid new (take n made) →
    (out ++ made ≢ []) × (m : ℕ) × Appends old new (take m (out ++ made))
begun_behind old mid new out made n w some b = (
  some_behind out made some,
  length out + n,
  subst (Appends old new) (sym (take-append-add out made n)) (known_more old mid new out (take n made) w b),
)

-- what is made of a block was written, and couldn't be flushed
pub all_begun : (made : List ℕ) (old mid new : Option (List ℕ)) → made ≢ [] → Appends old mid made → Keeps mid new →
    (made ≢ []) × (n : ℕ) × Appends old new (take n made)
all_begun made old mid new some w k = (
  some,
  length made,
  subst (Appends old new) (sym (take_all (length made) made (omega arith))) (Appends-kept old mid new made w k),
)

-- nothing is made
abbrev pub nothing_made : Made
nothing_made = record { refused = 0; nothing = true }

first_nothing : (x y : List ℕ) → x ++ y ≡ [] → x ≡ []
first_nothing [] y e = refl
first_nothing (a ∷ x) y e = let l = ap length e in let no : ⊥ = omega (arith, l) in absurd no

-- both are nothing exactly where all is
pub both_nothing : (a b : Bool) (x y : List ℕ) → Decides a (x ≡ []) → Decides b (y ≡ []) → Decides (a && b) (x ++ y ≡ [])
both_nothing true b x y f g = (λ e. ap (λ z. z ++ y) (f.0 refl) ∙ g.0 e, λ e. g.1 (sym (ap (λ z. z ++ y) (f.0 refl)) ∙ e))
both_nothing false b x y f g = (λ e. absurd (true≢false (sym e)), λ e. f.1 (first_nothing x y e))

-- what is made of pods is made of them part by part
abbrev pub Joins : (ℕ → ℕ → List ℕ → List ℕ → ℕ → Type 0) → Type 0
Joins Makes =
    (c p : ℕ) (a b x y : List ℕ) (i j : ℕ) → Makes c p a x i → Makes (c + length (walk a)) (p + length a) b y j → Makes c p (a ++ b) (x ++ y) (i + j)

module _ (reading : Reading) (Refuses : Type 0) (Makes : ℕ → ℕ → List ℕ → List ℕ → ℕ → Type 0) where
  -- some bytes were passed, what is made of the pods as which they are read is written, and these are held behind them
  pub record StreamedSoFar (remaining now : Option (List ℕ)) (held : List ℕ) (before : Before) (its : Made) (old new : Option (List ℕ)) : Type 0 where
    pub passed : List ℕ
    pub pods : List ℕ
    pub out : List ℕ
    pub read_as : ReadsAs reading passed pods
    pub made : Makes 0 0 pods out its.refused
    pub nothing : Decides its.nothing (out ≡ [])
    pub whole : AreWhole passed
    pub whole_pods : AreWhole pods
    pub its_count : before.count ≡ length (walk passed)
    pub as_many : length (walk pods) ≡ length (walk passed)
    pub its_place : before.place ≡ length passed
    pub its_made : before.made ≡ length pods
    pub within : length pods ≤ length passed
    pub few : its.refused ≤ length passed
    pub written : Appends old new out
    pub read : Consumes remaining now (passed ++ held)

  pub begins : (remaining old : Option (List ℕ)) (held : List ℕ) (before : Before) → before.count ≡ 0 → before.place ≡ 0 → before.made ≡ 0 →
      Makes 0 0 [] [] 0 → held ≡ [] → StreamedSoFar remaining remaining held before nothing_made old old
  begins remaining old held before c p m nothing none = record {
    passed = [];
    pods = [];
    out = [];
    read_as = nothing_read reading;
    made = nothing;
    nothing = (λ e. refl, λ e. refl);
    whole = no_pods;
    whole_pods = no_pods;
    its_count = c ∙ sym none_counted;
    as_many = refl;
    its_place = p;
    its_made = m;
    within = omega arith;
    few = omega arith;
    written = Appends-nil old;
    read = subst (Consumes remaining remaining) (sym none) (Consumes-nil remaining);
  }

  -- the same bytes were passed, where more may have been read and nothing more was written
  elsewhere : (remaining now after : Option (List ℕ)) (held more : List ℕ) (before : Before) (its : Made) (old mid new : Option (List ℕ))
      (so : StreamedSoFar remaining now held before its old mid) → Consumes remaining after (so.passed ++ more) → Appends old new so.out →
      StreamedSoFar remaining after more before its old new
  elsewhere remaining now after held more before its old mid new so r w = record {
    passed = so.passed;
    pods = so.pods;
    out = so.out;
    read_as = so.read_as;
    made = so.made;
    nothing = so.nothing;
    whole = so.whole;
    whole_pods = so.whole_pods;
    its_count = so.its_count;
    as_many = so.as_many;
    its_place = so.its_place;
    its_made = so.its_made;
    within = so.within;
    few = so.few;
    written = w;
    read = r;
  }

  -- more was read
  pub reads : (remaining now after : Option (List ℕ)) (held more : List ℕ) (before : Before) (its : Made) (old new : Option (List ℕ)) →
      ReadsOn now after held more → StreamedSoFar remaining now held before its old new → StreamedSoFar remaining after more before its old new
  reads remaining now after held more before its old new r so =
      elsewhere remaining now after held more before its old new new so
      (subst (Consumes remaining after) (append_assoc so.passed held r.0 ∙ ap (λ l. so.passed ++ l) (sym r.2))
      (Consumes-trans remaining now after (so.passed ++ held) r.0 so.read r.1))
      so.written

  -- there are fewer pods than bytes, and of them fewer are refused; those as which they are read take no more
  pub few_passed : (remaining now : Option (List ℕ)) (held : List ℕ) (before : Before) (its : Made) (old new : Option (List ℕ)) →
      StreamedSoFar remaining now held before its old new → (before.count * 8 ≤ before.place) × (its.refused ≤ before.place) × (before.made ≤ before.place)
  few_passed remaining now held before its old new so =
      let c = so.its_count in
      let p = so.its_place in
      let m = so.its_made in
      let f = few_whole so.passed in
      let r = so.few in
      let w = so.within in
      (omega (arith, c, p, f), omega (arith, p, r), omega (arith, p, m, w))

  -- what is made of pods behind those that were passed
  behind_passed : (remaining now : Option (List ℕ)) (held : List ℕ) (before : Before) (its : Made) (old new : Option (List ℕ)) (b x : List ℕ) (j : ℕ) →
      Joins Makes → (so : StreamedSoFar remaining now held before its old new) → MakesAs reading (Makes before.count before.made) b x j →
      MakesAs reading (Makes 0 0) (so.passed ++ b) (so.out ++ x) (its.refused + j)
  behind_passed remaining now held before its old new b x j joins so m =
      let c = so.its_count in
      let n = so.as_many in
      let p = so.its_made in
      let ec : before.count ≡ 0 + length (walk so.pods) = omega (arith, c, n) in
      let ep : before.made ≡ 0 + length so.pods = omega (arith, p) in (
        so.pods ++ m.0,
        reads_joined reading so.passed b so.pods m.0 so.read_as m.1,
        joins 0 0 so.pods m.0 so.out x its.refused j so.made
            (subst (λ z. Makes (0 + length (walk so.pods)) z m.0 x j) ep (subst (λ z. Makes z before.made m.0 x j) ec m.2)),
      )

  -- a block was written and passed
  pub passes : (remaining now : Option (List ℕ)) (held : List ℕ) (before : Before) (its : Made) (len pods : ℕ) (behind : Before) (w : Written) (sum : Made)
      (old mid new : Option (List ℕ)) (more : List ℕ) → Joins Makes → len ≤ length held → AreWhole (take len held) →
      pods ≡ length (walk (take len held)) → behind.place ≡ before.place + len → behind.count ≡ before.count + pods →
      behind.made ≡ before.made + w.len → more ≡ drop len held → WritesRead reading (Makes before.count before.made) (take len held) mid new w →
      sum.refused ≡ its.refused + w.made.refused → sum.nothing ≡ its.nothing && w.made.nothing →
      StreamedSoFar remaining now held before its old mid → StreamedSoFar remaining now more behind sum old new
  unfolding behind_passed
  passes remaining now held before its len pods behind w sum old mid new more joins l whole n b a d m h r0 n0 so =
      let block = take len held in
      let p = so.its_place in
      let c = so.its_count in
      let e = so.its_made in
      let j = length-append so.passed block in
      let i = length-append so.pods h.pods in
      let t = length-take len held in
      let k = count_joined so.passed block so.whole in
      let q = count_joined so.pods h.pods so.whole_pods in
      let f = so.few in
      let g = h.made.few in
      let s = so.as_many in
      let r = h.read.counted in
      let u = so.within in
      let v = h.read.within in
      let z = h.its_len in
      let all = behind_passed remaining now held before its old mid block h.made.out w.made.refused joins so (h.pods, h.read.read, h.made.made) in
      record {
        passed = so.passed ++ block;
        pods = so.pods ++ h.pods;
        out = so.out ++ h.made.out;
        read_as = all.1;
        made = subst (Makes 0 0 (so.pods ++ h.pods) (so.out ++ h.made.out)) (sym r0) all.2;
        nothing =
            subst (λ z. Decides z (so.out ++ h.made.out ≡ [])) (sym n0)
            (both_nothing its.nothing w.made.nothing so.out h.made.out so.nothing h.made.nothing);
        whole = whole_joined so.passed block so.whole whole;
        whole_pods = whole_joined so.pods h.pods so.whole_pods (h.read.whole whole);
        its_count = omega (arith, c, k, n, a);
        as_many = omega (arith, q, k, s, r);
        its_place = omega (arith, p, j, t, l, b);
        its_made = omega (arith, e, i, z, d);
        within = omega (arith, i, j, u, v);
        few = omega (arith, f, g, j, v, r0);
        written = known_more old mid new so.out h.made.out so.written h.made.written;
        read =
            subst (Consumes remaining now)
            (ap (λ z. so.passed ++ z) (sym (take-append-drop len held)) ∙ sym (append_assoc so.passed block (drop len held))
            ∙ ap (λ z. (so.passed ++ block) ++ z) (sym m))
            so.read;
      }

  -- the input as far as it is known
  pub input_is : (remaining now : Option (List ℕ)) (held : List ℕ) (before : Before) (its : Made) (old new : Option (List ℕ))
      (so : StreamedSoFar remaining now held before its old new) → IsAllOf remaining (so.passed ++ (held ++ unread_of now))
  input_is remaining now held before its old new so =
      subst (IsAllOf remaining) (append_assoc so.passed held (unread_of now)) (all_of remaining now (so.passed ++ held) so.read)

  first_made : (remaining now : Option (List ℕ)) (held : List ℕ) (before : Before) (its : Made) (old new : Option (List ℕ))
      (so : StreamedSoFar remaining now held before its old new) (left : List ℕ) →
      MakesFirst (MakesAs reading (Makes 0 0)) (so.passed ++ left) so.out left
  first_made remaining now held before its old new so left =
      record { first = so.passed; parts = refl; refused = its.refused; made = (so.pods, so.read_as, so.made) }

  -- reading failed
  pub fails : (remaining now : Option (List ℕ)) (held : List ℕ) (before : Before) (its : Made) (old new : Option (List ℕ)) (why : Stop) → IsReadFailure why →
      StreamedSoFar remaining now held before its old new → Stops reading Refuses (MakesAs reading (Makes 0 0)) remaining old new why
  fails remaining now held before its old new why cause so =
      let left = held ++ unread_of now in
      cases cause (so.passed ++ left) left (first_made remaining now held before its old new so left)
      (input_is remaining now held before its old new so)
    where
      cases : IsReadFailure why → (input left : List ℕ) → MakesFirst (MakesAs reading (Makes 0 0)) input so.out left → IsAllOf remaining input →
          Stops reading Refuses (MakesAs reading (Makes 0 0)) remaining old new why
      cases (inl e) input left first all =
          subst (Stops reading Refuses (MakesAs reading (Makes 0 0)) remaining old new) (sym e)
          (record { input = input; its = all; out = so.out; ends = (left, first); written = so.written })
      cases (inr e) input left first all =
          subst (Stops reading Refuses (MakesAs reading (Makes 0 0)) remaining old new) (sym e)
          (record { input = input; its = all; out = so.out; ends = (left, first); written = so.written })

  -- the input ended with a whole pod
  pub streams : (remaining now : Option (List ℕ)) (held : List ℕ) (before : Before) (its : Made) (old new : Option (List ℕ)) → held ≡ [] → IsAtEnd now →
      StreamedSoFar remaining now held before its old new → Streams (MakesAs reading (Makes 0 0)) remaining old new its
  streams remaining now held before its old new none end so =
      let nothing : so.passed ++ (held ++ unread_of now) ≡ so.passed =
      ap (λ z. so.passed ++ (z ++ unread_of now)) none ∙ ap (λ z. so.passed ++ z) (none_unread now end) ∙ append-nil so.passed in
      record {
        input = so.passed;
        read = subst (IsAllOf remaining) nothing (input_is remaining now held before its old new so);
        out = so.out;
        made = ((so.pods, so.read_as, so.made), so.nothing);
        written = so.written;
      }

  -- where no pod is whole none is read
  not_there : (reading : Reading) (b : List ℕ) → ¬ (HasFront b) → IsNothing reading b
  not_there Exact b n = λ v h. n h.there
  not_there Lenient b n = λ v h. n h.there

  -- it ended, and what is held is no whole pod
  pub ended : (remaining now : Option (List ℕ)) (held bytes : List ℕ) (before : Before) (its : Made) (old new : Option (List ℕ)) (why : Stop) →
      bytes ≡ held → IsAtEnd now → ¬ (HasFront held) → IsEnded before bytes why →
      StreamedSoFar remaining now held before its old new → Stops reading Refuses (MakesAs reading (Makes 0 0)) remaining old new why
  ended remaining now held bytes before its old new (Pod number at read) b end n e so =
      let none = none_unread now end in
      let unread = unread_of now in
      let left = held ++ unread in
      let c = so.its_count in
      let p = so.its_place in
      let e0 = e.0 in
      let e1 = e.1 in
      let refused_held = not_there reading held n in
      let same : read.items ≡ held = e.2 ∙ b in
      let some : held ≢ [] = λ z. e.3 (b ∙ z) in
      record {
        input = so.passed ++ left;
        its = input_is remaining now held before its old new so;
        out = so.out;
        ends = record {
          left = left;
          made = record { first = so.passed; parts = refl; refused = its.refused; made = (so.pods, so.read_as, so.made) };
          its_place = omega (arith, p, e1);
          its_number = omega (arith, c, e0);
          ahead =
              subst (IsRefusedAhead reading Refuses left) (sym same)
              (record {
                some = some_joined held unread some;
                refused = subst (IsNothing reading) (sym (ap (λ z. held ++ z) none ∙ append-nil held)) refused_held;
                unread = unread;
                parts = refl;
                enough = inr (n, none);
                no_pod = refused_held;
              });
        };
        written = so.written;
      }
  ended remaining now held bytes before its old new OutOfMemory b end n e so =
      let left = held ++ unread_of now in
      record {
        input = so.passed ++ left;
        its = input_is remaining now held before its old new so;
        out = so.out;
        ends = (left, first_made remaining now held before its old new so left);
        written = so.written;
      }
  ended remaining now held bytes before its old new ReadFailed b end n e so = absurd e
  ended remaining now held bytes before its old new WriteFailed b end n e so = absurd e

  pub closes : (remaining now : Option (List ℕ)) (held bytes : List ℕ) (before : Before) (its : Made) (old new : Option (List ℕ)) (r : Result Made Stop) →
      bytes ≡ held → IsAtEnd now → ¬ (HasFront held) → IfOk r (λ n. (n ≡ its) × (bytes ≡ [])) → IfErr r (IsEnded before bytes) →
      StreamedSoFar remaining now held before its old new →
      IfOk r (Streams (MakesAs reading (Makes 0 0)) remaining old new) × IfErr r (Stops reading Refuses (MakesAs reading (Makes 0 0)) remaining old new)
  closes remaining now held bytes before its old new (Ok n) b end none z w so = (
    subst (Streams (MakesAs reading (Makes 0 0)) remaining old new) (sym z.0) (streams remaining now held before its old new (sym b ∙ z.1) end so),
    tt,
  )
  closes remaining now held bytes before its old new (Err why) b end none z w so =
      (tt, ended remaining now held bytes before its old new why b end none w so)

  -- a block isn't written whole
  pub stops : (remaining now : Option (List ℕ)) (held : List ℕ) (before : Before) (its : Made) (len : ℕ) (old mid new : Option (List ℕ)) (why : Stop) →
      Joins Makes → AreWhole (take len held) →
      StopsInBlock reading Refuses (MakesAs reading (Makes before.count before.made)) before (take len held) mid new why →
      StreamedSoFar remaining now held before its old mid → Stops reading Refuses (MakesAs reading (Makes 0 0)) remaining old new why
  stops remaining now held before its len old mid new (Pod number at read) joins whole s so =
      let block = take len held in
      let behind = drop len held ++ unread_of now in
      let w = s.written in
      let conveyed = values_conveyed reading s.first s.accepted in
      let front = whole_front s.left (whole_behind conveyed.0 block s.first s.left whole s.parts conveyed.1) s.some in
      let all : so.passed ++ (held ++ unread_of now) ≡ (so.passed ++ s.first) ++ (s.left ++ behind) =
      ap (λ z. so.passed ++ (z ++ unread_of now)) (sym (take-append-drop len held) ∙ ap (λ z. z ++ drop len held) s.parts)
      ∙ ap (λ z. so.passed ++ z)
      (append_assoc (s.first ++ s.left) (drop len held) (unread_of now) ∙ append_assoc s.first s.left behind)
      ∙ sym (append_assoc so.passed s.first (s.left ++ behind)) in
      let j = length-append so.passed s.first in
      let n = count_joined so.passed s.first so.whole in
      let p = so.its_place in
      let c = so.its_count in
      let q = s.its_place in
      let r = s.its_number in
      record {
        input = so.passed ++ (held ++ unread_of now);
        its = input_is remaining now held before its old mid so;
        out = so.out ++ w.out;
        ends = record {
          left = s.left ++ behind;
          made = record {
            first = so.passed ++ s.first;
            parts = all;
            refused = its.refused + s.its.refused;
            made = behind_passed remaining now held before its old mid s.first w.out s.its.refused joins so w.made;
          };
          its_place = omega (arith, j, p, q);
          its_number = omega (arith, n, c, r);
          ahead =
              subst (IsRefusedAhead reading Refuses (s.left ++ behind)) (sym s.its_bytes)
              (record {
                some = some_joined s.left behind s.some;
                refused = nothing_longer reading s.left behind front s.no_pod;
                unread = behind;
                parts = refl;
                enough = inl (front, s.refuses);
                no_pod = s.no_pod;
              });
        };
        written = known_more old mid new so.out w.out so.written w.written;
      }
  stops remaining now held before its len old mid new OutOfMemory joins whole s so =
      fails remaining now held before its old new OutOfMemory (inl refl)
      (elsewhere remaining now now held held before its old mid new so so.read (Appends-kept old mid new so.out so.written s))
  stops remaining now held before its len old mid new ReadFailed joins whole s so = absurd s
  stops remaining now held before its len old mid new WriteFailed joins whole s so =
      let block = take len held in
      let first = s.2 in
      let behind = drop len held ++ unread_of now in
      let all : so.passed ++ (held ++ unread_of now) ≡ (so.passed ++ first.first) ++ (s.0 ++ behind) =
      ap (λ z. so.passed ++ (z ++ unread_of now)) (sym (take-append-drop len held) ∙ ap (λ z. z ++ drop len held) first.parts)
      ∙ ap (λ z. so.passed ++ z)
      (append_assoc (first.first ++ s.0) (drop len held) (unread_of now) ∙ append_assoc first.first s.0 behind)
      ∙ sym (append_assoc so.passed first.first (s.0 ++ behind)) in
      record {
        input = so.passed ++ (held ++ unread_of now);
        its = input_is remaining now held before its old mid so;
        out = so.out ++ s.1;
        ends = (
          s.0 ++ behind,
          record {
            first = so.passed ++ first.first;
            parts = all;
            refused = its.refused + first.refused;
            made = behind_passed remaining now held before its old mid first.first s.1 first.refused joins so first.made;
          },
        );
        written = begun_behind old mid new so.out s.1 s.4 so.written s.3 s.5;
      }
