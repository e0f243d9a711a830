-- Borrowed properties, one after another.
use Rattle.std.proofs.Common.{◌≡◌, ◌≢◌, ℕ, ◌≤◌, List, [], ◌++◌, ◌==◌, length, drop, refl, sym, ap, ◌∙◌, subst, arith, append_assoc, Bool, true, false, if◌then◌else◌, Some, None}
use Rattle.std.proofs.lemmas.List.{drop_at}
use Rattle.std.proofs.lemmas.Bool.{eqb-true}
use Rattle.spa_format.specs.Words.{word_at, word_bytes, extent, header_size}
use Rattle.spa_format.specs.Tree.{Tree, type_of, Properties, no_properties, property}
use Rattle.spa_format.specs.Pod.{AreProperties, IsBody, IsPod, IsWhole}
use Rattle.spa_format.specs.Encoding.{encoded_pod, encoded_body, property_encodings}
use Rattle.spa_format.specs.Front.{HasFront, front_of, rest_of}
use Rattle.spa_format.specs.Typed.{IsBytes}
use Rattle.spa_format.proofs.Back.{body_fits, type_fits, whole_frame}
use Rattle.spa_format.proofs.Fronts.{front_of_whole}
use Rattle.spa_format.proofs.Origin.{writable}
use Rattle.spa_format.proofs.WordLemmas.{IsBytes-drop, IsBytes-take}
use Rattle.spa_format.proofs.Encodings.{two_words_length}
use Rattle.spa_object_view.specs.Written.{AreApart, AreApartAtFirst, AreWritten, HasFirst, IsFound}
use Rattle.spa_object_view.specs.KeyOrder.{length_behind}
use Rattle.spa_keyed_objects.specs.Keys.{Offered, offered_at, has_key}
use Rattle.spa_keyed_objects.specs.CanonicalPods.{IsCanonicalPod}
use Rattle.std.specs.Cmp.{unsigned_Decides}

-- the first of some properties
pub record IsFirst (k f : ℕ) (v : Tree) (b : List ℕ) : Type 0 where
  pub header : header_size ≤ length b
  pub key : k ≡ word_at b 0
  pub flags : f ≡ word_at b 4
  pub there : HasFront (drop header_size b)
  pub written : IsCanonicalPod v (front_of (drop header_size b))

-- each property with what is behind it
abbrev pub AreListed : Properties → List ℕ → Type 0
AreListed no_properties b = b ≡ []
AreListed (property k f v ps) b = IsFirst k f v b × AreListed ps (rest_of (drop header_size b))

pub listed : (ps : Properties) (b : List ℕ) → IsBytes b → AreProperties ps b → b ≡ property_encodings ps → AreListed ps b
listed no_properties b h m s = m
listed (property key flags v ps) b h m s =
    let behind = drop header_size b in
    let bytes = IsBytes-drop header_size b h in
    let f = front_of_whole behind m.3 m.4 (type_of v) (IsBody v) m.5 m.6 in
    let pod : IsPod (front_of behind) v = subst (λ c. IsPod c v) f.1 m.6 in
    let frame = encoded_pod (type_of v) (encoded_body v) in
    let more = frame ++ property_encodings ps in
    let w : IsWhole frame (type_of v) (λ c. c ≡ encoded_body v) =
    whole_frame (type_of v) (encoded_body v) (λ c. c ≡ encoded_body v) (type_fits v)
    (body_fits v (writable (front_of behind) v (IsBytes-take (extent (word_at behind 0)) behind bytes) pod).fits) refl in
    let s' : behind ≡ more =
    ap (drop 8) (s ∙ sym (append_assoc (word_bytes key) (word_bytes flags) more)) ∙ drop_at (word_bytes key ++ word_bytes flags) more 8 (two_words_length key flags) in
    let g = front_of_whole behind frame (property_encodings ps) (type_of v) (λ c. c ≡ encoded_body v) s' w in (
      record { header = m.0; key = m.1; flags = m.2; there = f.0; written = record { its_pod = pod; same = sym g.1 } },
      listed ps (rest_of behind) (IsBytes-drop (extent (word_at behind 0)) behind bytes) (subst (AreProperties ps) f.2 m.7) (sym g.2),
    )

-- the first of properties that begin with this one
pub record IsFirstOf (ps : Properties) (key flags : ℕ) (pod : List ℕ) : Type 0 where
  pub value : Tree
  pub behind : Properties
  pub all : ps ≡ property key flags value behind
  pub written : IsCanonicalPod value pod

pub first_of : (ps : Properties) (b pod rest : List ℕ) (key flags : ℕ) → IsBytes b → AreWritten ps b → HasFirst b key flags pod rest → IsFirstOf ps key flags pod
first_of no_properties b pod rest key flags h w f = absurd (let z = ap length w.properties in let l = f.header in omega arith)
first_of (property j g v qs) b pod rest key flags h w f =
    let m = (listed (property j g v qs) b h w.properties w.same).0 in
    record {
      value = v;
      behind = qs;
      all = ap (λ n. property n g v qs) (m.key ∙ sym f.its_key) ∙ ap (λ n. property key n v qs) (m.flags ∙ sym f.its_flags);
      written = subst (IsCanonicalPod v) (sym f.its_pod) m.written;
    }

-- two sides are apart under the first key
pub apart_at_first : (ps qs : Properties) (key flags other_flags : ℕ) (pod other : List ℕ) → IsFirstOf ps key flags pod → IsFound (offered_at key qs) other_flags other →
    ((v w : Tree) → IsCanonicalPod v pod → IsCanonicalPod w other → AreApart v w) → AreApartAtFirst ps qs key
apart_at_first ps qs key flags other_flags pod other f g a = record {
  our = record { flags = flags; value = f.value };
  their = record { flags = other_flags; value = g.value };
  behind = f.behind;
  first = f.all;
  found = g.is_found;
  apart = a f.value g.value f.written g.written;
}

other_key_by : (j key f : ℕ) (v : Tree) (ps : Properties) (b : Bool) → (j == key) ≡ b → j ≢ key →
    (if b then Some (record { flags = f; value = v }) else offered_at key ps) ≡ offered_at key ps
other_key_by j key f v ps true e n = absurd (n (eqb-true j key e))
other_key_by j key f v ps false e n = refl

-- what is under another key than the first one
other_key : (j key f : ℕ) (v : Tree) (ps : Properties) → j ≢ key → offered_at key (property j f v ps) ≡ offered_at key ps
other_key j key f v ps n = other_key_by j key f v ps (j == key) refl n

first_key : (key f : ℕ) (v : Tree) (ps : Properties) → offered_at key (property key f v ps) ≡ Some (record { flags = f; value = v })
first_key key f v ps = ap (λ b. if b then Some (record { flags = f; value = v }) else offered_at key ps) ((unsigned_Decides key key).1 refl)

other_behind_by : (j key : ℕ) (ps : Properties) (b : List ℕ) (t : Bool) → (j == key) ≡ t → j ≢ key →
    (if t then length (rest_of (drop header_size b)) else length_behind key ps (rest_of (drop header_size b))) ≡ length_behind key ps (rest_of (drop header_size b))
other_behind_by j key ps b true e n = absurd (n (eqb-true j key e))
other_behind_by j key ps b false e n = refl

-- what stands behind it, the same
other_behind : (j key f : ℕ) (v : Tree) (ps : Properties) (b : List ℕ) → j ≢ key → length_behind key (property j f v ps) b ≡ length_behind key ps (rest_of (drop header_size b))
other_behind j key f v ps b n = other_behind_by j key ps b (j == key) refl n

first_behind_here : (key f : ℕ) (v : Tree) (ps : Properties) (b : List ℕ) → length_behind key (property key f v ps) b ≡ length (rest_of (drop header_size b))
first_behind_here key f v ps b =
    ap (λ t. if t then length (rest_of (drop header_size b)) else length_behind key ps (rest_of (drop header_size b))) ((unsigned_Decides key key).1 refl)

-- what is left has what is under the key
pub record IsLeft (key : ℕ) (ps : Properties) (all left : List ℕ) : Type 0 where
  pub rest : Properties
  pub list : AreListed rest left
  pub same : offered_at key ps ≡ offered_at key rest
  pub behind : length_behind key ps all ≡ length_behind key rest left

abbrev pub AreSearched : ℕ → List ℕ → List ℕ → Type 0
AreSearched key properties left = (ps : Properties) → AreWritten ps properties → IsLeft key ps properties left

pub search_begun : (key : ℕ) (b : List ℕ) → IsBytes b → AreSearched key b b
search_begun key b h = λ ps w. record { rest = ps; list = listed ps b h w.properties w.same; same = refl; behind = refl }

pub search_on : (key : ℕ) (all left pod rest : List ℕ) (k g : ℕ) → HasFirst left k g pod rest → k ≢ key → AreSearched key all left → AreSearched key all rest
search_on key all left pod rest k g f n s = λ ps w. let i = s ps w in of_left ps i.rest i.list i.same i.behind
  where
    of_left : (ps rs : Properties) → AreListed rs left → offered_at key ps ≡ offered_at key rs → length_behind key ps all ≡ length_behind key rs left → IsLeft key ps all rest
    of_left ps no_properties l e b = absurd (let z = ap length l in let h = f.header in omega arith)
    of_left ps (property j h v rs) l e b =
        let other : j ≢ key = λ same. n (f.its_key ∙ sym l.0.key ∙ same) in
        record {
          rest = rs;
          list = subst (AreListed rs) (sym f.its_rest) l.1;
          same = e ∙ other_key j key h v rs other;
          behind = b ∙ other_behind j key h v rs left other ∙ ap (length_behind key rs) (sym f.its_rest);
        }

pub found_first : (key : ℕ) (all left pod rest : List ℕ) (k g : ℕ) → HasFirst left k g pod rest → k ≡ key → AreSearched key all left → (ps : Properties) → AreWritten ps all → IsFound (offered_at key ps) g pod
found_first key all left pod rest k g f same s ps w = let i = s ps w in of_left i.rest i.list i.same
  where
    of_left : (rs : Properties) → AreListed rs left → offered_at key ps ≡ offered_at key rs → IsFound (offered_at key ps) g pod
    of_left no_properties l e = absurd (let z = ap length l in let h = f.header in omega arith)
    of_left (property j h v rs) l e =
        let here : j ≡ key = l.0.key ∙ sym f.its_key ∙ same in
        let flags : h ≡ g = l.0.flags ∙ sym f.its_flags in
        record {
          value = v;
          is_found = e ∙ ap (λ i. offered_at key (property i h v rs)) here ∙ first_key key h v rs ∙ ap (λ n. Some (record { flags = n; value = v })) flags;
          written = subst (IsCanonicalPod v) (sym f.its_pod) l.0.written;
        }

-- what stands behind it
pub first_behind : (key : ℕ) (all left pod rest : List ℕ) (k g : ℕ) → HasFirst left k g pod rest → k ≡ key → AreSearched key all left → (ps : Properties) → AreWritten ps all → length rest ≡ length_behind key ps all
first_behind key all left pod rest k g f same s ps w = let i = s ps w in of_left i.rest i.list i.behind
  where
    of_left : (rs : Properties) → AreListed rs left → length_behind key ps all ≡ length_behind key rs left → length rest ≡ length_behind key ps all
    of_left no_properties l b = absurd (let z = ap length l in let h = f.header in omega arith)
    of_left (property j h v rs) l b =
        let here : j ≡ key = l.0.key ∙ sym f.its_key ∙ same in
        ap length f.its_rest ∙ sym (b ∙ ap (λ i. length_behind key (property i h v rs) left) here ∙ first_behind_here key h v rs left)

pub found_none : (key : ℕ) (all left : List ℕ) → (header_size ≤ length left → ¬ (HasFront (drop header_size left))) → AreSearched key all left → (ps : Properties) → AreWritten ps all → offered_at key ps ≡ None
found_none key all left n s ps w = let i = s ps w in of_left i.rest i.list i.same
  where
    of_left : (rs : Properties) → AreListed rs left → offered_at key ps ≡ offered_at key rs → offered_at key ps ≡ None
    of_left no_properties l e = e
    of_left (property j h v rs) l e = absurd (n l.0.header l.0.there)

-- whether there is a key, by what was found
absent_by : (key f : ℕ) (v : Tree) (ps : Properties) (b : Bool) → (offered_at key ps ≡ None → has_key key ps ≡ false) →
    (if b then Some (record { flags = f; value = v }) else offered_at key ps) ≡ None → (if b then true else has_key key ps) ≡ false
absent_by key f v ps true more e = cc
absent_by key f v ps false more e = more e

pub has_key-none : (key : ℕ) (ps : Properties) → offered_at key ps ≡ None → has_key key ps ≡ false
has_key-none key no_properties e = refl
has_key-none key (property j f v ps) e = absent_by key f v ps (j == key) (has_key-none key ps) e

there_by : (key f : ℕ) (v : Tree) (w : Offered) (ps : Properties) (b : Bool) → (offered_at key ps ≡ Some w → has_key key ps ≡ true) →
    (if b then Some (record { flags = f; value = v }) else offered_at key ps) ≡ Some w → (if b then true else has_key key ps) ≡ true
there_by key f v w ps true more e = refl
there_by key f v w ps false more e = more e

pub has_key-some : (key : ℕ) (w : Offered) (ps : Properties) → offered_at key ps ≡ Some w → has_key key ps ≡ true
has_key-some key w no_properties e = cc
has_key-some key w (property j f v ps) e = there_by key f v w ps (j == key) (has_key-some key w ps) e
