-- Pods of which the first are replaced by their encodings, but for the containers that are begun.
use Rattle.std.proofs.Common.{◌≡◌, ℕ, ◌+◌, ◌-◌, ◌/◌, ◌<◌, ◌≤◌, ◌%◌, List, [], ◌∷◌, ◌++◌, length, drop, take, suc, refl, sym, ap, ◌∙◌, subst, arith, append_assoc, length-append}
use Rattle.std.specs.Prelude.{Bool, Decides, false, true}
use Rattle.std.proofs.lemmas.List.{append-nil, drop-append-le, drop-drop, drop-take, drop_at, length-take-le, take-append-drop, take-append-le, take-take, take_all, take_at, take_rest}
use Rattle.std.proofs.lemmas.Slice.{take-put_mid_below}
use borrow.Rule.Slice.PartMut.{put_mid}
use Rattle.spa_format.specs.Words.{extent, header_size, size_limit, word_at, word_bytes}
use Rattle.spa_format.specs.Typed.{IsBytes}
use Rattle.spa_format.proofs.Encodings.{two_words_length}
use Rattle.spa_format.specs.Front.{front_of, rest_of}
use Rattle.spa_format.proofs.Fronts.{size_of_front}
use Rattle.spa_format.proofs.WordLemmas.{IsBytes-drop, IsBytes-take, word_at-append, word_at-drop, word_at-take, word_at-word_bytes}
use Rattle.spa_events.specs.Inside.{key_size}
use Rattle.spa_events.proofs.Places.{drop_part}
use Rattle.spa_canonical.specs.declared.emitting.OpenList.{OpenList}
use Rattle.spa_canonical.specs.declared.emitting.Run.{Run}
use Rattle.spa_canonical.specs.Emit.{ArePlaced, Begins, Encodes, EncodesFirst, IsAfter, IsAround, OpensWhole, type_inside}
use Rattle.spa_canonical.proofs.LeafBodies.{never}
use Rattle.spa_canonical.proofs.Replacing.{key_small, key_whole}
use Rattle.spa_canonical.proofs.Written.{drop_past, further_behind, take_past}
use Rattle.spa_canonical.proofs.Begun.{Begun, Fits, HoldsLink, Linked, Puts, body_at, header_of, linked_same, puts_end, puts_inner, puts_more, puts_none, with_header}
use Rattle.spa_canonical.proofs.Lengths.{lengths}

-- The pods before a place are replaced by the encodings at the front, but for the containers that are begun, and those behind it stay.
pub record Emits (pods now : List ℕ) (from to : ℕ) (list : OpenList) : Type 0 where
  pub begun : List Begun
  pub many : length begun ≡ list.depth
  pub its_body : list.body ≡ body_at begun
  pub long : length now ≡ length pods
  pub down : to ≤ from
  pub deep : list.depth ≤ to
  pub within : from ≤ list.end
  pub room : list.end ≤ length pods
  pub whole : 0 < list.depth → (list.end - from) % 8 ≡ 0
  pub bytes : IsBytes pods
  pub same : drop from now ≡ drop from pods
  pub puts : Puts (ArePlaced false pods) begun list.keyed (take (list.end - from) (drop from pods)) (take to now)
  pub links : Linked begun list.keyed list.end (take to now) pods

pub emits_none : (pods : List ℕ) → IsBytes pods → Emits pods pods 0 0 (record { keyed = false; end = length pods; body = 0; depth = 0 })
emits_none pods y = record {
  begun = [];
  many = refl;
  its_body = refl;
  long = refl;
  down = omega arith;
  deep = omega arith;
  within = omega arith;
  room = omega arith;
  whole = λ l. absurd (omega arith);
  bytes = y;
  same = refl;
  puts = subst (λ x. Puts (ArePlaced false pods) [] false x []) (sym (take_rest pods 0)) (puts_none false pods);
  links = (refl, refl);
}

-- some of the list are replaced, and their encodings moved down
pub ran : (pods now sub new : List ℕ) (from to : ℕ) (list : OpenList) (run : Run) → Emits pods now from to list →
    EncodesFirst list.keyed (take (list.end - from) (drop from now)) sub run.kept run.ended
    × IsAfter list.keyed (drop run.ended (take (list.end - from) (drop from now))) run.ended run.after →
    new ≡ take to (put_mid from (list.end - from) now sub)
    ++ (take run.kept (drop from (put_mid from (list.end - from) now sub)) ++ drop (to + run.kept) (put_mid from (list.end - from) now sub)) →
    Emits pods new (from + run.ended) (to + run.kept) list × IsAfter list.keyed (take (list.end - (from + run.ended)) (drop (from + run.ended) pods)) run.ended run.after
ran pods now sub new from to list run p r n =
    let k = list.end - from in
    let kept = run.kept in
    let ended = run.ended in
    let mid = put_mid from k now sub in
    let T = drop k (drop from now) in
    let e = r.0 in
    let a = p.down in
    let b = p.within in
    let c = p.room in
    let long = p.long in
    let left = take k (drop from pods) in
    let is : take k (drop from now) ≡ left = ap (take k) p.same in
    let left_long : length left ≡ k = omega lengths in
    let sub_long : length sub ≡ k = e.long ∙ ap length is ∙ left_long in
    let order = e.order in
    let within : ended ≤ k = subst (λ x. ended ≤ x) (ap length is ∙ left_long) e.within in
    let there : drop from mid ≡ sub ++ T = ap (drop from) refl ∙ drop_at (take from now) (sub ++ T) from (omega lengths) in
    let mid_long : length mid ≡ length now = omega lengths in
    let first : take kept (drop from mid) ≡ take kept sub = ap (take kept) there ∙ take-append-le kept sub T (omega lengths) in
    let start : take to mid ≡ take to now = take-put_mid_below from k now sub to a (omega lengths) in
    let rest : drop ended left ≡ take (list.end - (from + ended)) (drop (from + ended) pods) = drop_part ended from list.end pods (omega arith) in
    let front : take (to + kept) new ≡ take to now ++ take kept sub =
    ap (take (to + kept)) n ∙ take_past (take to mid) (take kept (drop from mid) ++ drop (to + kept) mid) to kept (omega lengths)
    ∙ ap (λ x. take to mid ++ x) (take_at (take kept (drop from mid)) (drop (to + kept) mid) kept (omega lengths))
    ∙ ap (λ x. x ++ take kept (drop from mid)) start ∙ ap (λ x. take to now ++ x) first in
    let behind : drop (from + ended) new ≡ drop (from + ended) now =
    further_behind new mid (to + kept) (from + ended) (omega arith)
    (ap (drop (to + kept)) n ∙ drop_past (take to mid) (take kept (drop from mid) ++ drop (to + kept) mid) to kept (omega lengths)
    ∙ drop_at (take kept (drop from mid)) (drop (to + kept) mid) kept (omega lengths))
    ∙ sym (drop-drop ended from mid) ∙ ap (drop ended) there ∙ drop-append-le ended sub T (omega lengths) ∙ ap (λ x. x ++ T) e.behind
    ∙ sym (drop-append-le ended (take k (drop from now)) T (omega lengths)) ∙ ap (drop ended) (take-append-drop k (drop from now)) ∙ drop-drop ended from now in
    let new_long : length new ≡ length now = ap length n ∙ length-append (take to mid) (take kept (drop from mid) ++ drop (to + kept) mid) ∙ omega lengths in
    let prefix : take to (take (to + kept) new) ≡ take to (take to now) =
    ap (take to) front ∙ take_at (take to now) (take kept sub) to (omega lengths) ∙ sym (take_all to (take to now) (omega lengths)) in
    let more = puts_more (ArePlaced false pods) p.begun list.keyed left (drop ended left) (take to now) (take kept sub)
    (subst (λ x. (others : List ℕ) → ArePlaced list.keyed (drop ended x) others → ArePlaced list.keyed x (take kept sub ++ others)) is e.ends) (omega lengths) p.puts in
    let whole = e.whole in (
      record {
        begun = p.begun;
        many = p.many;
        its_body = p.its_body;
        long = new_long ∙ long;
        down = omega arith;
        deep = (let d = p.deep in omega arith);
        within = omega arith;
        room = c;
        whole = λ some. (let w = p.whole some in omega arith);
        bytes = p.bytes;
        same = behind ∙ further_behind now pods from (from + ended) (omega arith) p.same;
        puts = subst (λ x. Puts (ArePlaced false pods) p.begun list.keyed x (take (to + kept) new)) rest
            (subst (Puts (ArePlaced false pods) p.begun list.keyed (drop ended left)) (sym front) more);
        links = linked_same p.begun list.keyed list.end to (to + length left) (take to now) (take (to + kept) new) pods (omega lengths) (omega lengths) prefix
            (subst (λ n. Fits p.begun n (n + length left)) (omega lengths) p.puts.fits) p.links;
      },
      subst (λ x. IsAfter list.keyed x ended run.after) (ap (drop ended) is ∙ rest) r.1,
    )

-- all are
pub emits_all : (pods now : List ℕ) (from to : ℕ) (list : OpenList) → Emits pods now from to list → list.depth ≡ 0 →
    ArePlaced list.keyed (take (list.end - from) (drop from pods)) [] → Encodes (ArePlaced false) pods now to
emits_all pods now from to list p z q =
    let none = none_begun p.begun (p.many ∙ z) in
    let puts = subst (λ bs. Puts (ArePlaced false pods) bs list.keyed (take (list.end - from) (drop from pods)) (take to now)) none p.puts in
    record { placed = subst (ArePlaced false pods) (append-nil (take to now)) (puts.awaits [] q); within = omega arith }
  where
    none_begun : (bs : List Begun) → length bs ≡ 0 → bs ≡ []
    none_begun [] e = refl
    none_begun (b ∷ bs) e = absurd (omega arith)

-- A container ends.

header_ends : (inner : Bool) (start to : ℕ) (now new header : List ℕ) → start + header_size ≤ to → to ≤ length now →
    header ≡ header_of inner (to - (start + header_size)) → new ≡ take start now ++ (header ++ drop (start + header_size) now) →
    take to new ≡ with_header inner start (take to now)
header_ends inner start to now new header a b h e =
    let m = to - (start + header_size) in
    let eight : length header ≡ 8 = ap length h ∙ two_words_length m (type_inside inner) in
    let D = drop (start + header_size) now in
    let front : take start (take to now) ≡ take start now = take-take start to now (omega lengths) in
    let back : drop (start + header_size) (take to now) ≡ take m D =
    ap (λ i. drop (start + header_size) (take i now)) (omega lengths) ∙ drop-take (start + header_size) m now in
    ap (take to) e ∙ ap (λ i. take i (take start now ++ (header ++ D))) (omega lengths) ∙ take_past (take start now) (header ++ D) start (8 + m) (omega lengths)
    ∙ ap (λ x. take start now ++ x) (take_past header D 8 m eight)
    ∙ ap (λ x. take start now ++ (x ++ take m D)) h
    ∙ sym (ap (λ x. x ++ (header_of inner (length (take to now) - (start + header_size)) ++ drop (start + header_size) (take to now))) front
    ∙ ap (λ i. take start now ++ (header_of inner i ++ drop (start + header_size) (take to now))) (omega lengths)
    ∙ ap (λ x. take start now ++ (header_of inner m ++ x)) back)

same_bit : (k l : Bool) (n w : ℕ) → w ≡ n + key_size k / 8 → n % 8 ≡ 0 → Decides l (w % 8 ≡ 1) → k ≡ l
same_bit true true n w e z d = refl
same_bit false false n w e z d = refl
same_bit true false n w e z d = absurd (never false (d.1 (omega arith)) refl)
same_bit false true n w e z d = absurd (let o = d.0 refl in omega arith)

-- what the header of the innermost container holds
words_held : (bs : List Begun) (b : Begun) (now : List ℕ) (to body : ℕ) → 0 < length bs → to ≤ length now → body ≤ to → body ≡ b.start + header_size →
    HoldsLink bs b (take to now) → (body_at bs + word_at now (body - header_size) ≡ body) × (word_at now (body - 4) ≡ length b.pods + key_size b.keyed / 8) × (length b.pods % 8 ≡ 0)
words_held [] b now to body some t l e h = absurd (omega arith)
words_held (x ∷ xs) b now to body some t l e h =
    let w0 : word_at now (body - header_size) ≡ word_at (take to now) b.start = ap (word_at now) (omega arith) ∙ sym (word_at-take to b.start now (omega arith)) in
    let w4 : word_at now (body - 4) ≡ word_at (take to now) (b.start + 4) = ap (word_at now) (omega arith) ∙ sym (word_at-take to (b.start + 4) now (omega arith)) in
    let h0 = h.0 in
    (omega arith, w4 ∙ h.1, h.2)

-- the list around it
list_around_is : (b : Begun) (bs : List Begun) (to : ℕ) (now pods : List ℕ) (list around : OpenList) → list.body ≤ to → to ≤ length now →
    length now ≡ length pods → list.depth ≡ length bs + 1 → list.body ≡ b.start + header_size → HoldsLink bs b (take to now) →
    Linked bs b.keyed (list.end + length b.pods) (take to now) pods → IsAround list now around →
    (b.keyed ≡ around.keyed) × (around.end ≡ list.end + length b.pods) × (around.body ≡ body_at bs)
list_around_is b [] to now pods list around c l d e f h k i =
    let n = i.none e in
    (k.0 ∙ sym n.0, n.1 ∙ d ∙ sym k.1, n.2)
list_around_is b (x ∷ xs) to now pods list around c l d e f h k i =
    let w = words_held (x ∷ xs) b now to list.body (omega arith) l c f h in
    let some : 1 < list.depth = omega arith in
    let w0 = w.0 in
    let w1 = w.1 in
    let w2 = w.2 in
    let i1 = (i.some some).1 in
    let i2 = (i.some some).2 in
    let bit = key_small b.keyed in
    (same_bit b.keyed around.keyed (length b.pods) (word_at now (list.body - 4)) w1 w2 (i.some some).0, omega arith, omega arith)

pub emits_end : (pods now new header : List ℕ) (from to : ℕ) (list around : OpenList) → Emits pods now from to list → 0 < list.depth →
    ArePlaced list.keyed (take (list.end - from) (drop from pods)) [] →
    header ≡ header_of list.keyed (to - list.body) → new ≡ take (list.body - header_size) now ++ (header ++ drop list.body now) →
    IsAround list now around → Emits pods new list.end to around
emits_end pods now new header from to list around p some q h e i = ended p.begun p.many p.its_body p.puts p.links
  where
    ended : (begun : List Begun) → length begun ≡ list.depth → list.body ≡ body_at begun →
        Puts (ArePlaced false pods) begun list.keyed (take (list.end - from) (drop from pods)) (take to now) →
        Linked begun list.keyed list.end (take to now) pods → Emits pods new list.end to around
    ended [] m y puts l = absurd (omega lengths)
    ended (b ∷ bs) m y puts l =
        let start = b.start in
        let c = p.within in
        let long = p.long in
        let d = i.depth in
        let is = list_around_is b bs to now pods list around (omega lengths) (omega lengths) long (omega (arith, m)) y l.2 l.3 i in
        let is1 = is.1 in
        let at : new ≡ take start now ++ (header ++ drop (start + header_size) now) =
        e ∙ ap (λ n. take n now ++ (header ++ drop list.body now)) (omega lengths)
        ∙ ap (λ n. take start now ++ (header ++ drop n now)) y in
        let size : header ≡ header_of list.keyed (to - (start + header_size)) = h ∙ ap (λ n. header_of list.keyed (to - n)) y in
        let eight : length header ≡ 8 = ap length size ∙ two_words_length (to - (start + header_size)) (type_inside list.keyed) in
        let written : take to new ≡ with_header list.keyed start (take to now) = header_ends list.keyed start to now new header (omega lengths) (omega lengths) size at in
        let new_long : length new ≡ length now = ap length at ∙ length-append (take start now) (header ++ drop (start + header_size) now) ∙ omega lengths in
        let behind : drop (start + 8) new ≡ drop (start + 8) now =
        ap (drop (start + 8)) at ∙ drop_past (take start now) (header ++ drop (start + header_size) now) start 8 (omega lengths)
        ∙ drop_at header (drop (start + header_size) now) 8 eight in
        let closed = puts_end (ArePlaced false pods) bs b list.keyed (take (list.end - from) (drop from pods)) (take to now) q puts in
        let many : around.end - list.end ≡ length b.pods = (let z = is.1 in omega lengths) in
        let prefix : take start (take to new) ≡ take start (take to now) =
        take-take start to new (omega lengths) ∙ ap (take start) at ∙ take_at (take start now) (header ++ drop (start + header_size) now) start (omega lengths)
        ∙ sym (take-take start to now (omega lengths)) in
        record {
          begun = bs;
          many = omega (arith, m, d);
          its_body = is.2;
          long = new_long ∙ long;
          down = omega lengths;
          deep = (let deep = p.deep in omega arith);
          within = omega lengths;
          room = omega lengths;
          bytes = p.bytes;
          whole = λ more. (let z = (words_held bs b now to list.body (omega (arith, m, d)) (omega lengths) (omega lengths) y l.2).2 in omega lengths);
          same = further_behind new now (start + 8) list.end (omega lengths) behind ∙ further_behind now pods from list.end c p.same;
          puts = subst (λ k. Puts (ArePlaced false pods) bs k (take (around.end - list.end) (drop list.end pods)) (take to new)) is.0
              (subst (λ x. Puts (ArePlaced false pods) bs b.keyed x (take to new)) (l.1 ∙ ap (λ n. take n (drop list.end pods)) (sym many))
              (subst (Puts (ArePlaced false pods) bs b.keyed b.pods) (sym written) closed));
          links = subst (λ k. Linked bs k around.end (take to new) pods) is.0
              (subst (λ n. Linked bs b.keyed n (take to new) pods) (sym is.1)
              (linked_same bs b.keyed (list.end + length b.pods) start (length (take to now) + length (take (list.end - from) (drop from pods)) + length b.pods)
              (take to now) (take to new) pods (omega lengths) (omega lengths) prefix puts.fits.2 l.3));
        }

-- A container begins.

link_word : (a K L T now : List ℕ) (to key first second : ℕ) → length a ≡ to → length K ≡ key → first < size_limit → second < size_limit →
    L ≡ word_bytes first ++ word_bytes second → now ≡ a ++ (K ++ (L ++ T)) →
    (word_at now (to + key) ≡ first) × (word_at now (to + key + 4) ≡ second)
link_word a K L T now to key first second la lk f s le e =
    let at : drop (to + key) now ≡ L ++ T = ap (drop (to + key)) e ∙ drop_past a (K ++ (L ++ T)) to key la ∙ drop_at K (L ++ T) key lk in
    let long = ap length le in
    let w0 : word_at L 0 ≡ first = ap (λ x. word_at x 0) le ∙ word_at-append (word_bytes first) (word_bytes second) 0 (omega lengths) ∙ word_at-word_bytes first f in
    let w4 : word_at L 4 ≡ second =
    ap (λ x. word_at x 4) le ∙ sym (word_at-drop 4 0 (word_bytes first ++ word_bytes second))
    ∙ ap (λ x. word_at x 0) (drop_at (word_bytes first) (word_bytes second) 4 (omega lengths)) ∙ word_at-word_bytes second s in
    let there = λ (i : ℕ) (r : i + 4 ≤ 8). sym (word_at-drop (to + key) i now) ∙ ap (λ x. word_at x i) at ∙ word_at-append L T i (omega lengths) in (
      ap (word_at now) (omega lengths) ∙ there 0 (omega lengths) ∙ w0,
      there 4 (omega lengths) ∙ w4,
    )

held : (bs : List Begun) (list inside : OpenList) (to key : ℕ) (rest now : List ℕ) (link : ℕ × ℕ) (written all : ℕ) → length bs ≡ list.depth →
    list.body ≡ body_at bs → Fits bs written all → written ≤ to → inside.body ≡ to + (key + header_size) → list.end ≡ inside.end + length rest →
    (0 < list.depth → (link.0 ≡ inside.body - list.body) × (link.1 ≡ list.end - inside.end + key_size list.keyed / 8)) → word_at now (to + key) ≡ link.0 → word_at now (to + key + 4) ≡ link.1 →
    (0 < list.depth → length rest % 8 ≡ 0) → HoldsLink bs (record { start = to + key; keyed = list.keyed; pods = rest }) now
held [] list inside to key rest now link written all m b f w i e l a c z = tt
held (x ∷ xs) list inside to key rest now link written all m b f w i e l a c z =
    let its = l (omega arith) in
    let left : list.end - inside.end ≡ length rest = omega arith in (
      omega arith,
      c ∙ its.1 ∙ ap (λ n. n + key_size list.keyed / 8) left,
      z (omega arith),
    )

pub emits_inner : (pods now new : List ℕ) (inner : Bool) (from to size : ℕ) (list inside : OpenList) →
    Emits pods now from to list → OpensWhole list.keyed (take (list.end - from) (drop from pods)) inner size →
    Begins list inner size from to now new inside →
    Emits pods new (from + (key_size list.keyed + header_size + key_size inner)) (to + (key_size list.keyed + header_size + key_size inner))
    inside
emits_inner pods now new inner from to size list inside p w b =
    let key = key_size list.keyed in
    let ki = key_size inner in
    let h = key + header_size + ki in
    let left = take (list.end - from) (drop from pods) in
    let here = drop key left in
    let rest = rest_of here in
    let within = p.within in
    let room = p.room in
    let long = p.long in
    let to_long = length-take-le to now (omega lengths) in
    let there = w.there.whole in
    let header = w.there.header in
    let some = w.key in
    let size8 = w.whole in
    let fits = w.its.fits in
    let body_is = b.body in
    let same : word_at here 0 ≡ size = sym (size_of_front here) ∙ w.its.its_size in
    let X = drop (from + key) pods in
    let here_at : here ≡ take (list.end - (from + key)) X = drop_part key from list.end pods (omega lengths) in
    let extent_is : extent (word_at here 0) ≡ header_size + size = omega arith in
    let long_here : length here ≡ list.end - (from + key) = omega lengths in
    let after : (n m : ℕ) → n + m ≡ header_size + size → drop n (front_of here) ≡ take m (drop (from + key + n) pods) = λ n m e.
    ap (λ i. drop n (take i here)) (extent_is ∙ sym e) ∙ drop-take n m here ∙ ap (λ x. take m (drop n x)) here_at
    ∙ ap (take m) (drop_part n (from + key) list.end pods (omega arith)) ∙ take-take m (list.end - (from + key + n)) (drop (from + key + n) pods) (omega arith) in
    let inside_is : drop (header_size + ki) (front_of here) ≡ take (inside.end - (from + h)) (drop (from + h) pods) =
    after (header_size + ki) (inside.end - (from + h)) (omega arith) ∙ ap (λ n. take (inside.end - (from + h)) (drop n pods)) (omega arith) in
    let rest_is : rest ≡ take (length rest) (drop inside.end pods) =
    ap (λ n. drop n here) extent_is ∙ ap (drop (header_size + size)) here_at ∙ drop_part (header_size + size) (from + key) list.end pods (omega arith)
    ∙ ap (λ n. take (list.end - (from + key + (header_size + size))) (drop n pods)) (let z : from + key + (header_size + size) ≡ inside.end = omega arith in z)
    ∙ ap (λ n. take n (drop inside.end pods)) (let z : list.end - (from + key + (header_size + size)) ≡ length rest = omega lengths in z) in
    let L = word_bytes b.link.0 ++ word_bytes b.link.1 in
    let eight = two_words_length b.link.0 b.link.1 in
    let K = take key left in
    let T = take ki (drop header_size here) in
    let key_same : take key (drop from now) ≡ K = ap (take key) p.same ∙ sym (take-take key (list.end - from) (drop from pods) (omega lengths)) in
    let words_same : take ki (drop (from + (key + header_size)) now) ≡ T =
    ap (take ki) (further_behind now pods from (from + (key + header_size)) (omega lengths) p.same)
    ∙ sym (ap (λ x. take ki (drop header_size x)) here_at ∙ ap (take ki) (drop_part header_size (from + key) list.end pods (omega arith))
    ∙ take-take ki (list.end - (from + key + header_size)) (drop (from + key + header_size) pods) (omega arith) ∙ ap (λ n. take ki (drop n pods)) (omega arith)) in
    let R = drop (to + h) now in
    let is : new ≡ take to now ++ ((K ++ (L ++ T)) ++ R) =
    b.is ∙ ap (λ x. take to now ++ ((x ++ (L ++ take ki (drop (from + (key + header_size)) now))) ++ R)) key_same
    ∙ ap (λ x. take to now ++ ((K ++ (L ++ x)) ++ R)) words_same in
    let head_long : length (K ++ (L ++ T)) ≡ h = omega lengths in
    let new_long : length new ≡ length now = ap length is ∙ omega lengths in
    let front : take (to + h) new ≡ take to now ++ (K ++ (L ++ T)) =
    ap (take (to + h)) is ∙ take_past (take to now) ((K ++ (L ++ T)) ++ R) to h to_long ∙ ap (λ x. take to now ++ x) (take_at (K ++ (L ++ T)) R h head_long) in
    let behind : drop (to + h) new ≡ R =
    ap (drop (to + h)) is ∙ drop_past (take to now) ((K ++ (L ++ T)) ++ R) to h to_long ∙ drop_at (K ++ (L ++ T)) R h head_long in
    let start : length (take to now) + key ≡ to + key = omega lengths in
    let begun : Begun = record { start = to + key; keyed = list.keyed; pods = rest } in
    let bytes : IsBytes left = IsBytes-take (list.end - from) (drop from pods) (IsBytes-drop from pods p.bytes) in
    let puts = puts_inner (ArePlaced false pods) p.begun list.keyed inner left here L (take to now) size bytes refl w eight p.puts in
    let puts_there = subst (λ n. Puts (ArePlaced false pods) (record { start = n; keyed = list.keyed; pods = rest } ∷ p.begun) inner (drop (header_size + ki) (front_of here))
    (take to now ++ (K ++ (L ++ T)))) start puts in
    let words = link_word (take to now) K L T (take (to + h) new) to key b.link.0 b.link.1 to_long (omega lengths) b.small.0 b.small.1 refl front in
    let prefix : take to (take (to + h) new) ≡ take to (take to now) =
    ap (take to) front ∙ take_at (take to now) (K ++ (L ++ T)) to to_long ∙ sym (take_all to (take to now) (omega lengths)) in
    let key8 = key_whole list.keyed in
    let ki8 = key_whole inner in
    record {
      begun = begun ∷ p.begun;
      many = ap suc p.many ∙ omega (arith, b.depth);
      its_body = body_is ∙ omega lengths;
      long = new_long ∙ long;
      down = omega lengths;
      deep = (let d = p.deep in let e = b.depth in omega arith);
      within = omega lengths;
      room = omega lengths;
      bytes = p.bytes;
      whole = λ more. omega lengths;
      same = further_behind new now (to + h) (from + h) (omega lengths) behind ∙ further_behind now pods from (from + h) (omega lengths) p.same;
      puts = subst (λ v. Puts (ArePlaced false pods) (begun ∷ p.begun) v (take (inside.end - (from + h)) (drop (from + h) pods)) (take (to + h) new)) (sym b.keyed)
          (subst (λ x. Puts (ArePlaced false pods) (begun ∷ p.begun) inner x (take (to + h) new)) inside_is
          (subst (Puts (ArePlaced false pods) (begun ∷ p.begun) inner (drop (header_size + ki) (front_of here))) (sym front) puts_there));
      links = (
        omega lengths,
        rest_is,
        held p.begun list inside to key rest (take (to + h) new) b.link to (to + length left) p.many p.its_body
            (subst (λ n. Fits p.begun n (n + length left)) to_long p.puts.fits) (omega lengths) body_is (omega lengths) b.its_link words.0 words.1
            (λ some. (let z = p.whole some in omega lengths)),
        subst (λ n. Linked p.begun list.keyed n (take (to + h) new) pods) (sym (omega lengths))
            (linked_same p.begun list.keyed list.end to (to + length left) (take to now) (take (to + h) new) pods (omega lengths) (omega lengths) prefix
            (subst (λ n. Fits p.begun n (n + length left)) to_long p.puts.fits) p.links),
      );
    }

-- What the loop's calls require.

pub inner_fits : (pods now : List ℕ) (from to : ℕ) (list : OpenList) (inner : Bool) (size : ℕ) → Emits pods now from to list →
    OpensWhole list.keyed (take (list.end - from) (drop from pods)) inner size → from + key_size list.keyed + header_size + size ≤ list.end
inner_fits pods now from to list inner size p w =
    let here = drop (key_size list.keyed) (take (list.end - from) (drop from pods)) in
    let same : word_at here 0 ≡ size = sym (size_of_front here) ∙ w.its.its_size in
    let there = w.there.whole in
    omega lengths

-- the link is in the header of the innermost container
pub record HasLink (now : List ℕ) (to : ℕ) (list : OpenList) : Type 0 where
  pub header : header_size ≤ list.body
  pub within : list.body ≤ to
  pub small : to < list.body + size_limit
  pub back : 1 < list.depth → word_at now (list.body - header_size) ≤ list.body
  pub behind : 1 < list.depth → list.end + word_at now (list.body - 4) ≤ length now + 1

pub has_link : (pods now : List ℕ) (from to : ℕ) (list : OpenList) → Emits pods now from to list → 0 < list.depth → HasLink now to list
has_link pods now from to list p some = linked p.begun p.many p.its_body p.puts.fits p.links
  where
    linked : (begun : List Begun) → length begun ≡ list.depth → list.body ≡ body_at begun →
        Fits begun (length (take to now)) (length (take to now) + length (take (list.end - from) (drop from pods))) →
        Linked begun list.keyed list.end (take to now) pods → HasLink now to list
    linked [] m y f l = absurd (omega lengths)
    linked (b ∷ bs) m y f l =
        let held = λ (more : 1 < list.depth). words_held bs b now to list.body (omega (arith, m)) (omega lengths) (omega lengths) y l.2 in
        record {
          header = omega lengths;
          within = omega lengths;
          small = omega lengths;
          back = λ more. (let w = (held more).0 in omega arith);
          behind = λ more. (let w = (held more).1 in let l0 = l.0 in let bit = key_small b.keyed in omega lengths);
        }

-- a container is begun
pub begun_there : (list : OpenList) (inner : Bool) (size from to n k ki body : ℕ) (old moved new : List ℕ) (link : ℕ × ℕ) → to ≤ from →
    from + n ≤ length old → k ≡ key_size list.keyed → ki ≡ key_size inner → n ≡ k + 8 + ki → body ≡ to + (k + 8) →
    (link.0 < size_limit) × (link.1 < size_limit) →
    (0 < list.depth → (link.0 ≡ body - list.body) × (link.1 ≡ list.end - (from + (k + 8) + size) + key_size list.keyed / 8)) →
    moved ≡ take to old ++ (take n (drop from old) ++ drop (to + n) old) →
    new ≡ take (body - header_size) moved ++ ((word_bytes link.0 ++ word_bytes link.1) ++ drop body moved) →
    Begins list inner size from to old new (record { keyed = inner; end = from + (k + 8) + size; body = body; depth = list.depth + 1 })
begun_there list inner size from to n k ki body old moved new link a b ke kie ne be small its me we =
    let D = drop from old in
    let M = take n D in
    let R = drop (to + n) old in
    let L = word_bytes link.0 ++ word_bytes link.1 in
    let key = key_size list.keyed in
    let W = take ki (drop (k + 8) D) in
    let A_is : take (body - header_size) moved ≡ take to old ++ take k D =
    ap (λ i. take i moved) (omega arith) ∙ ap (take (to + k)) me ∙ take_past (take to old) (M ++ R) to k (omega lengths)
    ∙ ap (λ x. take to old ++ x) (take-append-le k M R (omega lengths) ∙ take-take k n D (omega lengths)) in
    let E_is : drop body moved ≡ W ++ R =
    ap (λ i. drop i moved) be ∙ ap (drop (to + (k + 8))) me ∙ drop_past (take to old) (M ++ R) to (k + 8) (omega lengths)
    ∙ drop-append-le (k + 8) M R (omega lengths) ∙ ap (λ x. x ++ R) (ap (λ i. drop (k + 8) (take i D)) ne ∙ drop-take (k + 8) ki D) in
    record {
      keyed = refl;
      depth = refl;
      end = omega lengths;
      body = omega lengths;
      link = link;
      small = small;
      its_link = its;
      is = we ∙ ap (λ x. x ++ (L ++ drop body moved)) A_is ∙ ap (λ x. (take to old ++ take k D) ++ (L ++ x)) E_is ∙ head_parts (take to old) (take k D) L W R
          ∙ ap (λ x. take to old ++ ((take k D ++ (L ++ take ki x)) ++ R)) (drop-drop (k + 8) from old)
          ∙ ap (λ i. take to old ++ ((take i D ++ (L ++ take ki (drop (from + (i + 8)) old))) ++ R)) ke
          ∙ ap (λ i. take to old ++ ((take key D ++ (L ++ take i (drop (from + (key + 8)) old))) ++ R)) kie
          ∙ ap (λ i. take to old ++ ((take key D ++ (L ++ take (key_size inner) (drop (from + (key + 8)) old))) ++ drop (to + i) old)) (omega arith);
    }
  where
    head_parts : (a b c d e : List ℕ) → (a ++ b) ++ (c ++ (d ++ e)) ≡ a ++ ((b ++ (c ++ d)) ++ e)
    head_parts a b c d e = simp append_assoc
