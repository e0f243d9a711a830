-- Enums, by their borrowed bodies.
use Rattle.std.proofs.Common.{◌≡◌, ◌↔◌, false, ℕ, ◌≤◌, List, [], ◌∷◌, length, map, drop, refl, sym, ap, ◌∙◌, subst, arith, length-drop, Some, None}
use Rattle.std.proofs.lemmas.Bool.{and_right}
use Rattle.std.specs.Prelude.{slice_get}
use Rattle.std.specs.List.{Contains}
use Rattle.spa_format.specs.Words.{word_at}
use Rattle.spa_format.specs.Kind.{Kind, Fixed, content, body_size, kind_of, type_number}
use Rattle.spa_format.specs.Tree.{Tree, choice, enum_choice, choice_type, fixed, type_of}
use Rattle.spa_format.specs.Pod.{AreElements, IsArray, IsBody}
use Rattle.spa_format.proofs.Unique.{same_body}
use Rattle.spa_fixed_sized.specs.Choices.{choice_enum_tree}
use Rattle.spa_utils.specs.declared.choice.ChoiceEnum.{ChoiceEnum}
use Rattle.spa_filter_offers.specs.Admits.{AreSayable, AreSupported, IsMeeting, IsSupported, is_bounded, is_flags}
use Rattle.spa_filter_offers.specs.Offers.{IsDefault, IsKept, IsOffer, IsOfferOf, MeetsIn, OfferAdmits, default_of}
use Rattle.spa_filter_offers.specs.declared.offer.Offer.{Offer}
use Rattle.spa_filter.specs.CommonPods.{AreBoth, AreEnumValues, HasBody, IsCommonAppended, IsCommonRefused, IsCommonTooLarge, IsMetAppended, IsMetRefused, IsUnwritten}
use Rattle.spa_filter.specs.declared.refused.Refused.{Refused}
use Rattle.spa_filter.specs.declared.refused.Refused.TheVariants.{Apart, TooLarge, OutOfMemory}
use Rattle.spa_filter.proofs.CommonPods.{appended_over, none_over}
use Rattle.spa_filter_offers.proofs.Contents.{Contains-first, not_among}
use Rattle.spa_filter_offers.proofs.Meetings.{IsOffer-content, MeetsIn-among}
use Rattle.spa_filter_offers.proofs.Offering.{IsSupported-admits, only_by}
use Rattle.spa_filter.proofs.Outcomes.{IsMeeting-offers, none_common}
use Rattle.spa_value.proofs.TypeLaws.{type_of-choice_enum_tree}

-- the body of an Enum, from its values
pub enum_body : (k : Kind) (default : Fixed) (others : List Fixed) (array elements body : List ℕ) → 16 ≤ length body → word_at body 0 ≡ 3 →
    array ≡ drop 8 body → elements ≡ drop 8 array → word_at array 0 ≡ body_size k → word_at array 4 ≡ type_number k →
    AreElements k (default ∷ others) elements → IsBody (choice enum_choice (word_at body 4) k default others) body
enum_body k default others array elements body l s a e z t h =
    let n = ap length a ∙ length-drop 8 body in
    let of_array : IsArray k (default ∷ others) array = record {
      header = omega arith;
      child_size = z;
      child_type = t;
      elements = subst (AreElements k (default ∷ others)) e h;
    } in
    record {
      header = omega arith;
      shape = s;
      flags = refl;
      all = others;
      values = subst (IsArray k (default ∷ others)) a of_array;
      enough = omega arith;
      first = refl;
    }

-- the first of some bodies is that of their first content
pub first_value : (k : Kind) (values : List (List ℕ)) (first : List ℕ) → Some first ≡ slice_get values 0 →
    (others : List Fixed) × (map (content k) values ≡ content k first ∷ others)
first_value k [] first h = cc
first_value k (v ∷ vs) first h =
    let same : v ≡ first = cc in
    (map (content k) vs, ap (λ b. content k b ∷ map (content k) vs) same)

-- what the first of some values says is among what they say
pub first_among : {T : Type 0} (f : T → Fixed) (xs : List T) (x : T) → Some x ≡ slice_get xs 0 → Contains (map f xs) (f x)
first_among f [] x h = cc
first_among f (y ∷ ys) x h =
    let same : y ≡ x = cc in
    subst (λ z. Contains (f y ∷ map f ys) (f z)) same (Contains-first (f y) (map f ys))

-- what an Enum offers
enum_offer : (flags : ℕ) (k : Kind) (d : Fixed) (vs : List Fixed) → IsOffer (choice enum_choice flags k d vs) (Contains (d ∷ vs)) d
enum_offer flags k d vs =
    record { each = λ x. (λ h. h, λ h. h); only = λ t h. only_by enum_choice flags k d vs t h; default_is = refl }

-- the choice of a body, which admits exactly the elements of which P holds, and has the default d
pub record IsSideOf (P : Fixed → Type 0) (d : Fixed) (body : List ℕ) : Type 0 where
  pub tree : Tree
  pub its_type : type_of tree ≡ choice_type
  pub its_body : IsBody tree body
  pub supported : (x : Fixed) → P x → IsSupported tree
  pub offers : IsOffer tree P d

-- that of an Enum,
pub enum_side : (k : Kind) (d : Fixed) (values : List (List ℕ)) (body : List ℕ) → AreEnumValues k d values body →
    IsSideOf (Contains (map (content k) values)) d body
enum_side k d values body p =
    let t = choice enum_choice p.flags k d p.others in
    record {
      tree = t;
      its_type = refl;
      its_body = p.its_body;
      supported = λ x h. tt;
      offers = subst (λ xs. IsOffer t (Contains xs) d) (sym p.contents) (enum_offer p.flags k d p.others);
    }

-- beside which any choice is sayable, in either order,
pub enum_first : (k : Kind) (d : Fixed) (values : List (List ℕ)) (body : List ℕ) (p : AreEnumValues k d values body) (u : Tree) →
    AreSayable (enum_side k d values body p).tree u
unfolding enum_side
enum_first k d values body p u = (refl, refl)

pub enum_second : (k : Kind) (d : Fixed) (values : List (List ℕ)) (body : List ℕ) (p : AreEnumValues k d values body) (u : Tree) →
    AreSayable u (enum_side k d values body p).tree
unfolding enum_side
enum_second k d values body p u = (and_right (is_flags u) false refl, and_right (is_bounded u) false refl)

-- and one that was read
pub read_side : {T : Type 0} (k : Kind) (f : T → Fixed) (n : ℕ) (e : ChoiceEnum T) (offer : Offer T) (body : List ℕ) →
    IsBody (choice_enum_tree k f n e) body → ((x : T) → kind_of (f x) ≡ k) → IsOfferOf f (choice_enum_tree k f n e) offer →
    IsSideOf (OfferAdmits f offer) (default_of f offer) body
read_side k f n e offer body h its o =
    record {
      tree = choice_enum_tree k f n e;
      its_type = type_of-choice_enum_tree k f n e;
      its_body = h;
      supported = λ x a. IsSupported-admits k f its n e x ((o.each x).1 a);
      offers = o;
    }

-- what two choices filter to, by what both admit
module _ (P Q : Fixed → Type 0) (d e : Fixed) (v w : Tree) (a b : List ℕ) (p : IsSideOf P d a) (q : IsSideOf Q e b) (s : AreSayable p.tree q.tree)
    (h : HasBody v choice_type a) (i : HasBody w choice_type b) where
  ours : p.tree ≡ v
  ours = same_body p.tree v a (p.its_type ∙ sym h.its_type) p.its_body h.content

  theirs : q.tree ≡ w
  theirs = same_body q.tree w b (q.its_type ∙ sym i.its_type) q.its_body i.content

  meeting : (y : Tree) → MeetsIn P Q d e y → IsMeeting p.tree q.tree y
  meeting y m = IsMeeting-offers p.tree q.tree P Q d e p.offers q.offers y m

  supported : (y : Tree) → MeetsIn P Q d e y → AreSupported p.tree q.tree
  supported y m = (p.supported m.default m.is_default.admitted.0, q.supported m.default m.is_default.admitted.1, s)

  pub appended_sides : (old new : List ℕ) → IsMetAppended P Q d e old new → IsCommonAppended v w old new
  appended_sides old new m =
      appended_over v w p.tree q.tree m.value a b old new h i p.its_type q.its_type p.its_body q.its_body (supported m.value m.meets)
      (meeting m.value m.meets) m.appended

  pub refused_sides : (why : Refused) → IsMetRefused P Q d e why → IsCommonRefused v w why
  refused_sides Apart r =
      λ t k. none_over v w p.tree q.tree ours theirs (none_common p.tree q.tree P Q d e p.offers q.offers r) k
  refused_sides TooLarge r =
      let too : IsCommonTooLarge p.tree q.tree =
      record { value = r.0; supported = supported r.0 r.1; meeting = meeting r.0 r.1; large = r.2 } in
      subst (λ t. IsCommonTooLarge t w) ours (subst (IsCommonTooLarge p.tree) theirs too)
  refused_sides OutOfMemory r = tt

-- an Enum and another choice admit nothing both, where none of the Enum's values are kept
module _ (P Q R : Fixed → Type 0) (d e : Fixed) (all kept : List Fixed) (s : IsKept R all kept)
    (both : AreBoth (Contains all) R P Q) where
  pub each_kept : (x : Fixed) → Contains kept x ↔ (P x × Q x)
  each_kept x = (λ h. (both.each x).0 ((s.each x).0 h), λ h. (s.each x).1 ((both.each x).1 h))

  pub none_kept : kept ≡ [] → (x : Fixed) → ¬ (P x × Q x)
  none_kept z x c = not_among x (subst (λ ys. Contains ys x) z ((each_kept x).1 c))

  -- an Enum of those that are
  pub meets_enum : (k : Kind) (x : Fixed) → IsDefault P Q d e x → MeetsIn P Q d e (choice enum_choice 0 k x kept)
  meets_enum k x m = MeetsIn-among P Q d e k kept each_kept x m

-- the element that both admit alone
pub meets_only : (P Q : Fixed → Type 0) (d e x : Fixed) → IsDefault P Q d e x → ((c : Fixed) → P c × Q c → c ≡ x) → MeetsIn P Q d e (fixed x)
meets_only P Q d e x m alone =
    let o = IsOffer-content x in
    record {
      default = x;
      is_default = m;
      offers = record {
        each = λ c. (λ h. subst (λ y. P y × Q y) (sym ((o.each c).0 h)) m.admitted, λ h. (o.each c).1 (alone c h));
        only = o.only;
        default_is = refl;
      };
      no_flags = refl;
    }

-- where one of the two admits its default alone
pub alone_first : (P Q : Fixed → Type 0) (d e x : Fixed) → IsDefault P Q d e x → ((c : Fixed) → P c → c ≡ d) → (c : Fixed) → P c × Q c → c ≡ x
alone_first P Q d e x m alone c h = alone c h.0 ∙ sym (alone x m.admitted.0)

pub alone_second : (P Q : Fixed → Type 0) (d e x : Fixed) → IsDefault P Q d e x → ((c : Fixed) → Q c → c ≡ e) → (c : Fixed) → P c × Q c → c ≡ x
alone_second P Q d e x m alone c h = alone c h.1 ∙ sym (alone x m.admitted.1)

-- why such a value isn't written
pub unwritten_met : (P Q : Fixed → Type 0) (d e : Fixed) (y : Tree) → MeetsIn P Q d e y → (why : Refused) → IsUnwritten y why → IsMetRefused P Q d e why
unwritten_met P Q d e y m Apart r = absurd r
unwritten_met P Q d e y m TooLarge r = (y, m, r)
unwritten_met P Q d e y m OutOfMemory r = tt

-- a list without a first element
pub empty_first : {A : Type 0} (xs : List A) → None ≡ slice_get xs 0 → xs ≡ []
empty_first [] h = refl
empty_first (x ∷ xs) h = cc
