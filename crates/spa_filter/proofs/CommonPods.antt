-- What two values filter to, from pod to pod.
use Rattle.std.proofs.Common.{◌≡◌, ◌≢◌, ℕ, ◌<◌, ◌^◌, List, ◌++◌, length, refl, sym, ap, ◌∙◌, subst, arith}
use Rattle.std.proofs.lemmas.Bool.{and_right, and_left}
use Rattle.spa_format.specs.Kind.{Kind, Fixed, content, fixed_body, kind_of, type_number}
use Rattle.spa_format.specs.Tree.{Shape, none_choice, range_choice, step_choice, enum_choice, flags_choice, Tree, fixed, choice, choice_type, type_of}
use Rattle.spa_format.specs.Pod.{IsBody, IsPod}
use Rattle.spa_format.specs.Normal.{kept_flags}
use Rattle.spa_format.specs.Typed.{IsTyped, IsTypedFixed}
use Rattle.spa_format.specs.Encoding.{encoded_body, encoding_of, encoded_pod}
use Rattle.spa_format.proofs.Back.{encoding_is_pod}
use Rattle.spa_format.proofs.Shapes.{choice_only, fixed_only}
use Rattle.spa_format.proofs.Unique.{one_value, same_body}
use Rattle.spa_bytes.specs.Opening.{Opens}
use Rattle.spa_fixed_sized.specs.Choices.{choice_enum_tree}
use Rattle.spa_utils.specs.declared.choice.ChoiceEnum.{ChoiceEnum}
use Rattle.spa_filter_offers.specs.Admits.{Admits, AreSupported, HasCommon, IsCommon, IsMeeting, IsPlain, IsSupported, choice_flags_of, plain_of}
use Rattle.spa_filter_offers.specs.Offers.{IsContent}
use Rattle.spa_filter_offers.proofs.Offering.{kind_of-admitted, only_contents}
use Rattle.spa_filter.specs.CommonPods.{HasBody, IsAppended, IsCommonAppended, IsCommonRefused, IsOffered, IsUnwritten}
use Rattle.spa_keyed_objects.specs.CanonicalPods.{IsCanonicalPod}
use Rattle.spa_filter.specs.declared.refused.Refused.{Refused}
use Rattle.spa_filter.specs.declared.refused.Refused.TheVariants.{Apart, TooLarge, OutOfMemory}
use Rattle.spa_filter.proofs.Plain.{IsPlainTree, IsMeeting-same, none-apart}
use Rattle.spa_filter.proofs.Swapping.{AreSupported-swapped, IsMeeting-swapped}
use Rattle.spa_value.proofs.TypeLaws.{type_of-choice_enum_tree}

-- a pod of a choice without flags, as it is written
zero_kept : (s : Shape) (f : ℕ) → f ≡ 0 → kept_flags s f ≡ f
zero_kept none_choice f e = sym e
zero_kept range_choice f e = refl
zero_kept step_choice f e = refl
zero_kept enum_choice f e = refl
zero_kept flags_choice f e = refl

appended_by : (s : Shape) (f : ℕ) (k : Kind) (d : Fixed) (vs : List Fixed) (old new : List ℕ) → f ≡ 0 → IsTyped (choice s f k d vs) →
    length (encoded_body (choice s f k d vs)) < 2 ^ 32 → new ≡ old ++ encoding_of (choice s f k d vs) → IsAppended (choice s f k d vs) old new
appended_by s f k d vs old new z t l p =
    let its : IsPod (encoding_of (choice s f k d vs)) (choice s (kept_flags s f) k d vs) =
    encoding_is_pod (choice s f k d vs) t (record { no_nul = λ h. h; fits = λ h. omega (arith, h, l) }) in
    record {
      pod = encoding_of (choice s f k d vs);
      written = record { its_pod = subst (λ n. IsPod (encoding_of (choice s f k d vs)) (choice s n k d vs)) (zero_kept s f z) its; same = refl };
      parts = p;
    }

pub appended_choice : (t : Tree) (old new : List ℕ) → type_of t ≡ choice_type → choice_flags_of t ≡ 0 → IsTyped t →
    length (encoded_body t) < 2 ^ 32 → new ≡ old ++ encoding_of t → IsAppended t old new
appended_choice t old new e z h l p =
    let i = choice_only t e in
    subst (λ u. IsAppended u old new) (sym i.5)
    (appended_by i.0 i.1 i.2 i.3 i.4 old new (subst (λ u. choice_flags_of u ≡ 0) i.5 z) (subst IsTyped i.5 h)
    (subst (λ u. length (encoded_body u) < 2 ^ 32) i.5 l) (subst (λ u. new ≡ old ++ encoding_of u) i.5 p))

-- and one of a content
pub appended_fixed : (x : Fixed) (type : ℕ) (k : Kind) (old new : List ℕ) → type ≡ type_number k → kind_of x ≡ k → IsTypedFixed x →
    new ≡ old ++ encoded_pod type (fixed_body x) → IsAppended (fixed x) old new
appended_fixed x type k old new t e h p =
    let its : IsPod (encoding_of (fixed x)) (fixed x) = encoding_is_pod (fixed x) h (record { no_nul = λ n. n; fits = λ n. n }) in
    record {
      pod = encoding_of (fixed x);
      written = record { its_pod = its; same = refl };
      parts = p ∙ ap (λ n. old ++ encoded_pod n (fixed_body x)) (t ∙ ap type_number (sym e));
    }

pub has_body : (v : Tree) (pod body rest : List ℕ) (type : ℕ) → IsCanonicalPod v pod → Opens pod type body rest → HasBody v type body
has_body v pod body rest type w o =
    record {
      its_type = sym w.its_pod.its_type ∙ sym o.its_type;
      content = subst (IsBody v) (sym o.its_body) w.its_pod.content;
    }

-- a plain value that a choice admits
pub offered : (k : Kind) (v w t : Tree) (b c : List ℕ) (x : Fixed) → type_of v ≡ type_number k → IsBody v b → x ≡ content k b →
    HasBody w choice_type c → type_of t ≡ choice_type → IsBody t c → IsSupported t → Admits t (fixed x) → IsOffered v w
offered k v w t b c x e h s i j l p a =
    let y = fixed_only v k e in
    let is : IsBody (fixed y.0) b = subst (λ u. IsBody u b) y.2 h in
    let says : y.0 ≡ x = is.says ∙ ap (λ n. content n b) y.1 ∙ sym s in
    let same : v ≡ fixed x = y.2 ∙ ap (λ z. fixed z) says in
    let whole : t ≡ w = same_body t w c (j ∙ sym i.its_type) l i.content in
    record {
      plain = subst IsPlain (sym same) tt;
      supported = subst IsSupported whole p;
      admitted = subst (λ u. Admits u v) whole (subst (Admits t) (sym same) a);
    }

-- the choice that was read of a body is its own
pub same_choice : {T : Type 0} (k : Kind) (f : T → Fixed) (n : ℕ) (e : ChoiceEnum T) (w : Tree) (c : List ℕ) → HasBody w choice_type c →
    IsBody (choice_enum_tree k f n e) c → choice_enum_tree k f n e ≡ w
same_choice k f n e w c h i = same_body (choice_enum_tree k f n e) w c (type_of-choice_enum_tree k f n e ∙ sym h.its_type) i h.content

pub plain_tree : (v : Tree) → IsPlain v → IsPlainTree v
plain_tree (choice s f k d vs) h = absurd h
plain_tree _ h = record { supported = tt; own = refl; alone = λ x h. h; itself = refl; unflagged = refl; unbounded = refl; no_flags = refl }

pub plain_typed : (v : Tree) → type_of v ≢ choice_type → IsPlain v
plain_typed (choice s f k d vs) n = absurd (n refl)
plain_typed _ n = tt

-- a plain value of a body of fixed size
pub record IsContentOf (v : Tree) (x : Fixed) : Type 0 where
  pub same : v ≡ fixed x
  pub alone : (y : Tree) → Admits v y → y ≡ v

pub plain_is : (k : Kind) (v : Tree) (b : List ℕ) (x : Fixed) → type_of v ≡ type_number k → IsBody v b → x ≡ content k b → IsContentOf v x
plain_is k v b x e h s =
    let y = fixed_only v k e in
    let is : IsBody (fixed y.0) b = subst (λ u. IsBody u b) y.2 h in
    let says : y.0 ≡ x = is.says ∙ ap (λ n. content n b) y.1 ∙ sym s in
    let same : v ≡ fixed x = y.2 ∙ ap (λ z. fixed z) says in
    record { same = same; alone = (plain_tree v (subst IsPlain (sym same) tt)).alone }

-- the plain value of a second side that the first admits
pub appended_second : (v w : Tree) (pod old new : List ℕ) → IsOffered w v → IsCanonicalPod w pod → new ≡ old ++ pod → IsCommonAppended v w old new
appended_second v w pod old new o h p =
    let t = plain_tree w o.plain in
    let both : IsCommon v w w = (o.admitted, t.itself) in
    record {
      value = w;
      supported = (o.supported, t.supported, (and_right _ _ t.unbounded, and_right _ _ t.unflagged));
      meeting = record {
        each = λ x. (λ a. (subst (Admits v) (sym (t.alone x a)) o.admitted, a), λ a. a.1);
        admitted = subst (IsCommon v w) (sym t.own) both;
        first = λ a. t.own ∙ sym (t.alone (plain_of v) a.1);
        second = λ n a. refl;
        no_flags = t.no_flags;
      };
      appended = record { pod = pod; written = h; parts = p };
    }

-- and that of a first side that the second admits
pub appended_first : (v w : Tree) (pod old new : List ℕ) → IsOffered v w → IsCanonicalPod v pod → new ≡ old ++ pod → IsCommonAppended v w old new
appended_first v w pod old new o h p =
    let t = plain_tree v o.plain in
    let a = appended_second w v pod old new o h p in
    record {
      value = a.value;
      supported = AreSupported-swapped w v a.supported;
      meeting = IsMeeting-swapped w v t.own t.alone a.value a.meeting;
      appended = a.appended;
    }

-- two plain values whose pods are the same
pub appended_same : (v w : Tree) (pod other old new : List ℕ) → IsPlain v → IsPlain w → IsCanonicalPod v pod → IsCanonicalPod w other → pod ≡ other →
    new ≡ old ++ pod → IsCommonAppended v w old new
appended_same v w pod other old new h k i j e p =
    let t = plain_tree v h in
    let u = plain_tree w k in
    let same : v ≡ w = one_value other v w (subst (λ b. IsPod b v) e i.its_pod) j.its_pod in
    record {
      value = v;
      supported = (t.supported, u.supported, (and_left _ _ t.unflagged, and_left _ _ t.unbounded));
      meeting = IsMeeting-same v w v t same refl;
      appended = record { pod = pod; written = i; parts = p };
    }

-- and two that differ
pub plain_differ : (v w : Tree) → IsPlain v → IsPlain w → v ≢ w → AreSupported v w × ¬ (HasCommon v w)
plain_differ v w h k n =
    let t = plain_tree v h in
    let u = plain_tree w k in
    ((t.supported, u.supported, (and_left _ _ t.unflagged, and_left _ _ t.unbounded)), none-apart v w t u n)

-- and two whose pods differ
pub plain_apart : (v w : Tree) (pod other : List ℕ) → IsPlain v → IsPlain w → IsCanonicalPod v pod → IsCanonicalPod w other → pod ≢ other →
    AreSupported v w × ¬ (HasCommon v w)
plain_apart v w pod other h k i j n = plain_differ v w h k (λ e. n (i.same ∙ ap encoding_of e ∙ sym j.same))

-- what two choices filter to
pub appended_over : (v w t u y : Tree) (a b old new : List ℕ) → HasBody v choice_type a → HasBody w choice_type b → type_of t ≡ choice_type → type_of u ≡ choice_type →
    IsBody t a → IsBody u b → AreSupported t u → IsMeeting t u y → IsAppended y old new → IsCommonAppended v w old new
appended_over v w t u y a b old new h k i j l m s e p =
    let first : t ≡ v = same_body t v a (i ∙ sym h.its_type) l h.content in
    let second : u ≡ w = same_body u w b (j ∙ sym k.its_type) m k.content in
    record {
      value = y;
      supported = subst (λ x. AreSupported x w) first (subst (AreSupported t) second s);
      meeting = subst (λ x. IsMeeting x w y) first (subst (λ x. IsMeeting t x y) second e);
      appended = p;
    }

pub with_type : (v : Tree) (type other : ℕ) (body : List ℕ) → HasBody v type body → type ≡ other → HasBody v other body
with_type v type other body h e = record { its_type = h.its_type ∙ e; content = h.content }

-- two choices of which none is admitted by both, as to their bodies
pub none_over : (v w t u : Tree) → t ≡ v → u ≡ w → ¬ (HasCommon t u) → ¬ (HasCommon v w)
none_over v w t u f g n h = n (subst (λ x. HasCommon x u) (sym f) (subst (HasCommon v) (sym g) h))

-- what two choices filter to admits a content of their type
unwritten_by : (k : Kind) (v w y z : Tree) (e : Refused) → ((x : Fixed) → Admits v (fixed x) → kind_of x ≡ k) → AreSupported v w → (m : IsMeeting v w y) → IsContent z →
    z ≡ plain_of y → ((x : Fixed) → kind_of x ≡ k → Admits y (fixed x) → IsUnwritten y e) → IsCommonRefused v w e
unwritten_by k v w y (fixed x) e kinds s m c same p =
    let common = subst (IsCommon v w) (sym same) m.admitted in
    of_cause e (p x (kinds x common.0) ((m.each (fixed x)).1 common))
  where
    of_cause : (e : Refused) → IsUnwritten y e → IsCommonRefused v w e
    of_cause Apart h = absurd h
    of_cause TooLarge h = record { value = y; supported = s; meeting = m; large = h }
    of_cause OutOfMemory h = tt
unwritten_by k v w y z e kinds s m c same p = absurd c

-- why it isn't written, as to their bodies
pub unwritten_over : {T : Type 0} (k : Kind) (f : T → Fixed) (its : (x : T) → kind_of (f x) ≡ k) (n : ℕ) (c : ChoiceEnum T) (v w u y : Tree) (e : Refused) →
    choice_enum_tree k f n c ≡ v → u ≡ w → AreSupported (choice_enum_tree k f n c) u → (m : IsMeeting (choice_enum_tree k f n c) u y) →
    ((x : Fixed) → kind_of x ≡ k → Admits y (fixed x) → IsUnwritten y e) → IsCommonRefused v w e
unwritten_over k f its n c v w u y e first second s m p =
    let t = choice_enum_tree k f n c in
    let refused = unwritten_by k t u y (plain_of y) e (kind_of-admitted k f its n c) s m (only_contents k f n c (plain_of y) m.admitted.0) refl p in
    subst (λ x. IsCommonRefused x w e) first (subst (λ x. IsCommonRefused t x e) second refused)
