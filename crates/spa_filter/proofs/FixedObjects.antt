-- What is settled, and laws of what two values filter to.
use Rattle.std.proofs.Common.{◌≡◌, ◌∷◌, ℕ, refl, ap, ◌∙◌, Option, Some, None}
use Rattle.spa_format.specs.Tree.{Tree, object, choice, Properties, no_properties, property, join_properties}
use Rattle.spa_filter_offers.specs.Admits.{plain_of, IsPlain}
use Rattle.spa_keyed_objects.specs.Keys.{HoldsOfEach, Offered, key_list, offered_at}
use Rattle.spa_filter.specs.Filtering.{Filters}
use Rattle.spa_filter.specs.Settling.{settled_properties, FiltersSettle, IsFixedAt, Settles}
use Rattle.spa_filter.specs.Laws.{MeetingsCommute, MeetingsRepeat, MeetingsNarrow}

-- a default is plain
pub IsPlain-plain_of : (t : Tree) → IsPlain (plain_of t)
IsPlain-plain_of (choice s f k d vs) = tt
IsPlain-plain_of _ = tt

Settles-filter : (o p : Option Offered) (f : ℕ) (x : Tree) → Filters o p f x → Settles o p (plain_of x)
Settles-filter (Some a) (Some b) f x h = h.1.admitted
Settles-filter (Some a) None f x h = ap plain_of h.1
Settles-filter None (Some b) f x h = ap plain_of h.1
Settles-filter None None f x h = h

fixed_each : (ps qs ms : Properties) → HoldsOfEach Filters ps qs ms → HoldsOfEach IsFixedAt ps qs (settled_properties ms)
fixed_each ps qs no_properties h = tt
fixed_each ps qs (property k f x ms) h =
    ((IsPlain-plain_of x, Settles-filter (offered_at k ps) (offered_at k qs) f x h.0), fixed_each ps qs ms h.1)

key_list-settled : (ms : Properties) → key_list (settled_properties ms) ≡ key_list ms
key_list-settled no_properties = refl
key_list-settled (property k f x ms) = ap (λ ks. k ∷ ks) (key_list-settled ms)

-- what two objects filter to, settled, is a fixed object that both admit
pub filters_settle : FiltersSettle
filters_settle (object t i ps) (object u j qs) (object n m ms) h =
    (h.0, h.1, h.2, record { keys = key_list-settled ms ∙ h.3.keys; values = fixed_each ps qs ms h.3.values })
filters_settle (object t i ps) (object u j qs) _ h = absurd h
filters_settle (object t i ps) _ met h = absurd h
filters_settle _ w met h = absurd h

-- settled properties behind one another
pub settled_properties-join : (ps qs : Properties) →
    settled_properties (join_properties ps qs) ≡ join_properties (settled_properties ps) (settled_properties qs)
settled_properties-join no_properties qs = refl
settled_properties-join (property k f v ps) qs =
    ap (property k f (plain_of v)) (settled_properties-join ps qs)

pub meetings_commute : MeetingsCommute
meetings_commute v w y z p q x = (
  λ h. let b = (p.each x).0 h in (q.each x).1 (b.1, b.0),
  λ h. let b = (q.each x).0 h in (p.each x).1 (b.1, b.0),
)

pub meetings_repeat : MeetingsRepeat
meetings_repeat v w y z p q x = (λ h. (q.each x).1 (h, ((p.each x).0 h).1), λ h. ((q.each x).0 h).0)

pub meetings_narrow : MeetingsNarrow
meetings_narrow u v w p q y z a b c d x = (
  λ h.
      let first = (b.each x).0 h in
      let two = (a.each x).0 first.0 in
      (d.each x).1 (two.0, (c.each x).1 (two.1, first.1)),
  λ h.
      let first = (d.each x).0 h in
      let two = (c.each x).0 first.1 in
      (b.each x).1 ((a.each x).1 (first.0, two.0), two.1),
)
