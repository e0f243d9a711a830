-- Properties put behind one another, as they are written.
use Rattle.std.proofs.Common.{◌≡◌, ◌≢◌, ℕ, zero, suc, ◌<◌, ◌≤◌, List, ◌++◌, length, take, drop, refl, sym, ap, ◌∙◌, subst, arith, append_assoc, true, Option, Some}
use Rattle.std.specs.Prelude.{nat_lt, replicate}
use Rattle.std.proofs.lemmas.List.{length-take-le, take-append-drop, append-nil}
use Rattle.spa_format.specs.Words.{word_at, word_bytes, wide_at, wide_bytes, padding}
use Rattle.spa_format.specs.Kind.{Kind, bool_kind, Fixed, bool, kind_of, content, body_size, type_number}
use Rattle.spa_format.specs.Tree.{Tree, fixed, choice}
use Rattle.spa_format.specs.Encoding.{encoding_of}
use Rattle.spa_format.specs.Pod.{IsPod}
use Rattle.spa_format.specs.Typed.{IsBytes, IsTyped}
use Rattle.spa_format.specs.Writable.{IsWritable}
use Rattle.spa_format.proofs.Back.{encoding_is_pod}
use Rattle.spa_format.proofs.FixedKinds.{kind_of_content, typed_content, same_kind}
use Rattle.spa_format.proofs.Unique.{one_value}
use Rattle.spa_format.proofs.WordLemmas.{IsBytes-take, length-word_bytes, word_at-take}
use Rattle.spa_canonical.proofs.Words.{content_kept, word_there, wide_back, wide_of_take}
use Rattle.spa_negotiate.specs.Admits.{Admits, IsPlain, plain_of}
use Rattle.spa_keyed_objects.specs.Keys.{Offered, offered}
use Rattle.spa_negotiate.specs.Meeting.{IsMetAt}
use Rattle.spa_negotiate.specs.Refusals.{IsValueRefusal}
use Rattle.spa_negotiate.specs.declared.error.NegotiateError.TheVariants.{Disjoint}
use Rattle.spa_negotiate.proofs.Agreeing.{IsSupported-plain}
use Rattle.spa_negotiate.specs.Offering.{IsOffer, IsShared, value_of}
use Rattle.spa_bodies.specs.Written.{IsLeaf}
use Rattle.spa_filter.proofs.CommonPods.{plain_differ as differ, plain_tree}
use Rattle.spa_object_view.specs.Answers.{IsPutBy}
use Rattle.spa_object_view.specs.declared.answer.Answer.{Answer}
use Rattle.spa_object_view.proofs.Rules.{put_of}
use Rattle.spa_keyed_objects.specs.CanonicalPods.{IsCanonicalPod}
use Rattle.spa_negotiate.specs.Written.{IsCommonEncoded, IsCommonPut, IsPut}
use Rattle.spa_negotiate.specs.declared.offer_view.OfferView.{OfferView}

-- the encoding of what a body says, which holds no truth value but 0 and 1
fixed_encoding : (k : Kind) (b : List ℕ) → IsBytes b → length b ≡ body_size k → (k ≡ bool_kind → word_at b 0 < 2) →
    encoding_of (fixed (content k b)) ≡ word_bytes (length b) ++ (word_bytes (type_number k) ++ (b ++ padding (length b)))
fixed_encoding k b h l n =
    let kept = content_kept k b h l n in
    ap (λ fb. word_bytes (length fb) ++ (word_bytes (type_number (kind_of (content k b))) ++ (fb ++ padding (length fb)))) (sym kept)
    ∙ ap (λ j. word_bytes (length b) ++ (word_bytes (type_number j) ++ (b ++ padding (length b)))) (kind_of_content k b)

put_fixed : (key : ℕ) (k : Kind) (b pod old new : List ℕ) → IsBytes b → pod ≡ encoding_of (fixed (content k b)) →
    new ≡ old ++ ((word_bytes key ++ word_bytes 0) ++ pod) → IsPut key (fixed (content k b)) old new
put_fixed key k b pod old new h e p =
    let its : IsPod (encoding_of (fixed (content k b))) (fixed (content k b)) =
    encoding_is_pod (fixed (content k b)) (typed_content k b h) (record { no_nul = λ z. z; fits = λ z. z }) in
    record {
      plain = tt;
      pod = pod;
      written = record { its_pod = subst (λ c. IsPod c (fixed (content k b))) (sym e) its; same = e };
      parts = p;
    }

put_kept : (key type : ℕ) (value body pod old new : List ℕ) → IsBytes value → 4 ≤ length value →
    take 4 body ≡ word_bytes (word_at value 0) → drop 4 body ≡ replicate 4 0 → pod ≡ (word_bytes 4 ++ word_bytes type) ++ body →
    new ≡ old ++ ((word_bytes key ++ word_bytes 0) ++ pod) →
    (k : Kind) → type ≡ type_number k → 4 ≡ body_size k → (k ≡ bool_kind → word_at (take 4 value) 0 < 2) → IsPut key (fixed (value_of k value)) old new
put_kept key type value body pod old new h l f z p a k t s n =
    let b = take 4 value in
    let bytes = IsBytes-take 4 value h in
    let long : length b ≡ 4 = length-take-le 4 value l in
    let whole : body ≡ b ++ padding 4 =
    sym (take-append-drop 4 body) ∙ ap (λ x. x ++ drop 4 body) (f ∙ word_there value 0 h (omega arith)) ∙ ap (λ x. b ++ x) z in
    let encoding : encoding_of (fixed (content k b)) ≡ word_bytes 4 ++ (word_bytes type ++ (b ++ padding 4)) =
    fixed_encoding k b bytes (long ∙ s) n ∙ ap (λ m. word_bytes m ++ (word_bytes (type_number k) ++ (b ++ padding m))) long
    ∙ ap (λ m. word_bytes 4 ++ (word_bytes m ++ (b ++ padding 4))) (sym t) in
    let same : pod ≡ encoding_of (fixed (content k b)) =
    p ∙ append_assoc (word_bytes 4) (word_bytes type) body ∙ ap (λ x. word_bytes 4 ++ (word_bytes type ++ x)) whole ∙ sym encoding in
    subst (λ m. IsPut key (fixed (content k (take m value))) old new) s (put_fixed key k b pod old new bytes same a)

positive : (n : ℕ) → 1 ≤ n → nat_lt 0 n ≡ true
positive n h = grind arith

-- a truth value of another number than 0 is true, and written as 1
put_true : (key : ℕ) (value body pod old new : List ℕ) → 1 ≤ word_at value 0 → take 4 body ≡ word_bytes 1 → drop 4 body ≡ replicate 4 0 →
    pod ≡ (word_bytes 4 ++ word_bytes 2) ++ body → new ≡ old ++ ((word_bytes key ++ word_bytes 0) ++ pod) →
    IsPut key (fixed (value_of bool_kind value)) old new
put_true key value body pod old new h f z p a =
    let whole : body ≡ word_bytes 1 ++ padding 4 = sym (take-append-drop 4 body) ∙ ap (λ x. x ++ drop 4 body) f ∙ ap (λ x. word_bytes 1 ++ x) z in
    let same : pod ≡ encoding_of (fixed (bool true)) =
    p ∙ append_assoc (word_bytes 4) (word_bytes 2) body ∙ ap (λ x. word_bytes 4 ++ (word_bytes 2 ++ x)) whole
    ∙ ap (λ m. word_bytes m ++ (word_bytes 2 ++ (word_bytes 1 ++ padding m))) (sym (length-word_bytes 1)) in
    let its : IsPod (encoding_of (fixed (bool true))) (fixed (bool true)) =
    encoding_is_pod (fixed (bool true)) tt (record { no_nul = λ n. n; fits = λ n. n }) in
    let true_of_it : value_of bool_kind value ≡ bool true = ap bool (ap (nat_lt 0) (word_at-take 4 0 value (omega arith)) ∙ positive (word_at value 0) h) in
    subst (λ x. IsPut key (fixed x) old new) (sym true_of_it)
    (record {
      plain = tt;
      pod = pod;
      written = record { its_pod = subst (λ c. IsPod c (fixed (bool true))) (sym same) its; same = same };
      parts = a;
    })

-- a word is written as itself, but for such a truth value
pub put_word : (key type word : ℕ) (value body pod old new : List ℕ) → IsBytes value → 4 ≤ length value →
    (¬ (type ≡ 2) → word ≡ word_at value 0) → (word_at value 0 < 2 → word ≡ word_at value 0) → (type ≡ 2 → 1 ≤ word_at value 0 → word ≡ 1) →
    take 4 body ≡ word_bytes word → drop 4 body ≡ replicate 4 0 → pod ≡ (word_bytes 4 ++ word_bytes type) ++ body →
    new ≡ old ++ ((word_bytes key ++ word_bytes 0) ++ pod) →
    (k : Kind) → type ≡ type_number k → 4 ≡ body_size k → IsPut key (fixed (value_of k value)) old new
put_word key type word value body pod old new h l itself small truth f z p a bool_kind t s = of_word (word_at value 0) refl
  where
    kept : word_at value 0 < 2 → IsPut key (fixed (value_of bool_kind value)) old new
    kept n =
        put_kept key type value body pod old new h l (f ∙ ap word_bytes (small n)) z p a bool_kind t s
        (λ e. let same = word_at-take 4 0 value (omega arith) in omega arith)

    of_word : (w : ℕ) → w ≡ word_at value 0 → IsPut key (fixed (value_of bool_kind value)) old new
    of_word zero e = kept (omega arith)
    of_word (suc w) e =
        put_true key value body pod old new (omega arith) (f ∙ ap word_bytes (truth t (omega arith))) z
        (p ∙ ap (λ n. (word_bytes 4 ++ word_bytes n) ++ body) t) a
put_word key type word value body pod old new h l itself small truth f z p a k t s =
    put_kept key type value body pod old new h l (f ∙ ap word_bytes (itself (λ e. absurd (omega arith)))) z p a k t s (λ e. let n = ap type_number e in omega arith)

pub put_wide : (key type : ℕ) (value body pod old new : List ℕ) → IsBytes value → 8 ≤ length value →
    body ≡ wide_bytes (wide_at value 0) → pod ≡ (word_bytes 8 ++ word_bytes type) ++ body →
    new ≡ old ++ ((word_bytes key ++ word_bytes 0) ++ pod) →
    (k : Kind) → type ≡ type_number k → 8 ≡ body_size k → IsPut key (fixed (value_of k value)) old new
put_wide key type value body pod old new h l f p a k t s =
    let b = take 8 value in
    let bytes = IsBytes-take 8 value h in
    let long : length b ≡ 8 = length-take-le 8 value l in
    let whole : body ≡ b ++ padding 8 =
    f ∙ ap wide_bytes (sym (wide_of_take value)) ∙ wide_back b bytes long ∙ sym (append-nil b) in
    let encoding : encoding_of (fixed (content k b)) ≡ word_bytes 8 ++ (word_bytes type ++ (b ++ padding 8)) =
    fixed_encoding k b bytes (long ∙ s) (λ e. absurd (let four = ap body_size e in omega arith)) ∙ ap (λ m. word_bytes m ++ (word_bytes (type_number k) ++ (b ++ padding m))) long
    ∙ ap (λ m. word_bytes 8 ++ (word_bytes m ++ (b ++ padding 8))) (sym t) in
    let same : pod ≡ encoding_of (fixed (content k b)) =
    p ∙ append_assoc (word_bytes 8) (word_bytes type) body ∙ ap (λ x. word_bytes 8 ++ (word_bytes type ++ x)) whole ∙ sym encoding in
    subst (λ m. IsPut key (fixed (content k (take m value))) old new) s (put_fixed key k b pod old new bytes same a)

-- what put_value says
abbrev pub PutsValue : (key type size : ℕ) (value old new : List ℕ) → Type 0
PutsValue key type size value old new =
    (k : Kind) → type ≡ type_number k → size ≡ body_size k → IsPut key (fixed (value_of k value)) old new

pub put_offered : (v : Tree) (offer : OfferView) (key : ℕ) (old new : List ℕ) → IsOffer v offer →
    PutsValue key offer.type_ offer.size offer.values.now old new → IsPut key (plain_of v) old new
put_offered v offer key old new o p =
    let default : o.default ≡ value_of o.kind offer.values.now = o.values.1.says in
    subst (λ x. IsPut key x old new) (ap (λ x. fixed x) (sym default) ∙ sym o.plain) (p o.kind o.its_type o.its_size)

written_fixed : (x : Tree) → ((y : Fixed) × (x ≡ fixed y)) → IsTyped x → IsWritable x → IsCanonicalPod x (encoding_of x)
written_fixed x f t w =
    let typed = subst IsTyped f.1 t in
    let writable = subst IsWritable f.1 w in
    subst (λ z. IsCanonicalPod z (encoding_of z)) (sym f.1) (record { its_pod = encoding_is_pod (fixed f.0) typed writable; same = refl })

-- what a value that is written admits is written as its encoding
written_admitted : (v x : Tree) (pod : List ℕ) → IsCanonicalPod v pod → Admits v x → IsTyped x → IsWritable x → IsCanonicalPod x (encoding_of x)
written_admitted (choice s f k d vs) (fixed x) pod i h t w = written_fixed (fixed x) (x, refl) t w
written_admitted (choice s f k d vs) _ pod i h t w = absurd h
written_admitted v x pod i h t w =
    let itself : IsCanonicalPod v (encoding_of v) = record { its_pod = subst (λ b. IsPod b v) i.same i.its_pod; same = refl } in
    subst (λ z. IsCanonicalPod z (encoding_of z)) (sym h) itself

pub put_plain : (v : Tree) (key : ℕ) (pod old new : List ℕ) → IsPlain v → IsCanonicalPod v pod →
    new ≡ old ++ ((word_bytes key ++ word_bytes 0) ++ pod) → IsPut key (plain_of v) old new
put_plain v key pod old new h w p =
    subst (λ x. IsPut key x old new) (sym (plain_tree v h).own) (record { plain = h; pod = pod; written = w; parts = p })

pub put_same : (v w : Tree) (key : ℕ) (pod other old new : List ℕ) → IsPlain v → IsPlain w → pod ≡ other → IsCanonicalPod v pod → IsCanonicalPod w other →
    new ≡ old ++ ((word_bytes key ++ word_bytes 0) ++ pod) → IsCommonPut v w key old new
put_same v w key pod other old new h i e first second p =
    let same : v ≡ w = one_value other v w (subst (λ b. IsPod b v) e first.its_pod) second.its_pod in
    let admitted = (plain_tree v h).itself in
    record {
      value = v;
      supported = (IsSupported-plain v h, IsSupported-plain w i);
      common = (admitted, subst (λ x. Admits x v) same admitted);
      put = record { plain = h; pod = pod; written = first; parts = p };
    }

-- two plain values that differ have none in common,
pub plain_differ : (v w : Tree) (key : ℕ) → IsPlain v → IsPlain w → v ≢ w → IsValueRefusal key v w (Disjoint key)
plain_differ v w key h i n = (refl, (IsSupported-plain v h, IsSupported-plain w i), (differ v w h i n).1)

-- nor have two that are written in two ways
pub plain_apart : (v w : Tree) (key : ℕ) (pod other : List ℕ) → IsPlain v → IsPlain w → ¬ (pod ≡ other) → IsCanonicalPod v pod → IsCanonicalPod w other →
    IsValueRefusal key v w (Disjoint key)
plain_apart v w key pod other h i n first second = plain_differ v w key h i (λ e. n (first.same ∙ ap encoding_of e ∙ sym second.same))

pub plain_with_members : (v : Tree) → ¬ (IsLeaf v) → IsPlain v
plain_with_members (choice s f k d vs) h = h tt
plain_with_members _ h = tt

-- what a value without members admits has none
leaf_admits : (w x : Tree) → IsLeaf w → Admits w x → IsLeaf x
leaf_admits (choice s f k d vs) (fixed x) n h = tt
leaf_admits (choice s f k d vs) _ n h = absurd h
leaf_admits w x n h = subst IsLeaf (sym h) n

-- a value with members admits itself alone, and one without members doesn't admit it
pub none_beside : (v w : Tree) → ¬ (IsLeaf v) → IsLeaf w → (x : Tree) → Admits v x → ¬ (Admits w x)
none_beside v w h n x a b = h (subst IsLeaf ((plain_tree v (plain_with_members v h)).alone x a) (leaf_admits w x n b))

-- a value that two values admit was put, as it is written
pub put_admitted : (v w : Tree) (key : ℕ) (pod old new : List ℕ) → IsCanonicalPod v pod → IsCommonEncoded v w key old new → IsCommonPut v w key old new
put_admitted v w key pod old new first c =
    record {
      value = c.value;
      supported = c.supported;
      common = c.common;
      put = record { plain = c.plain; pod = encoding_of c.value; written = written_admitted v c.value pod first c.common.0 c.typed c.writable; parts = c.parts };
    }

pub put_shared : (v w : Tree) (a : OfferView) (key : ℕ) (value old new : List ℕ) → IsOffer v a → IsShared v w a.type_ value →
    PutsValue key a.type_ a.size value old new → IsCommonPut v w key old new
put_shared v w a key value old new o s p =
    let same : o.kind ≡ s.kind = same_kind o.kind s.kind (sym o.its_type ∙ s.its_type) in
    record {
      value = fixed (value_of s.kind value);
      supported = (s.first.0, s.second.0);
      common = (s.first.1, s.second.1);
      put = p s.kind s.its_type (o.its_size ∙ ap body_size same);
    }

-- what was put for a key of both sides,
pub met_both : (v w : Tree) (f g key : ℕ) (old new : Answer) → new.is_large ≡ old.is_large → IsCommonPut v w key old.bytes.items new.bytes.items →
    IsPutBy IsMetAt (Some (offered f v)) (Some (offered g w)) key old new
met_both v w f g key old new z c =
    put_of IsMetAt _ _ key 0 c.value c.put.pod old new (refl, c.put.plain, (c.supported, (c.value, c.common)), c.common) (omega arith) c.put.parts z c.put.written

-- and for one of a side alone
pub met_alone : (ours theirs : Option Offered) (v : Tree) (key : ℕ) (old new : Answer) → IsMetAt ours theirs 0 (plain_of v) → new.is_large ≡ old.is_large →
    IsPut key (plain_of v) old.bytes.items new.bytes.items → IsPutBy IsMetAt ours theirs key old new
met_alone ours theirs v key old new h z p = put_of IsMetAt ours theirs key 0 (plain_of v) p.pod old new h (omega arith) p.parts z p.written
