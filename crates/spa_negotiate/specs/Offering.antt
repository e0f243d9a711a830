-- Offers of values, by their borrowed pods.
use Rattle.std.specs.Prelude.{◌≡◌, ℕ, ◌<◌, ◌≤◌, List, ◌∷◌, length, take}
use Rattle.spa_format.specs.Kind.{Kind, type_number, body_size, content, Fixed}
use Rattle.spa_format.specs.Tree.{Shape, Tree, choice, fixed, shape_number}
use Rattle.spa_format.specs.Pod.{AreElements}
use Rattle.spa_filter_offers.specs.Admits.{AdmitsContent}
use Rattle.spa_negotiate.specs.Admits.{Admits, IsSupported, plain_of}
use Rattle.spa_negotiate.specs.declared.offer_view.OfferView.{OfferView}

-- the value of the kind at the front of these bytes
abbrev pub value_of : Kind → List ℕ → Fixed
value_of k b = content k (take (body_size k) b)

-- this is the type of a kind over which there are choices
pub record IsElementType (type : ℕ) : Type 0 where
  pub kind : Kind
  pub its_type : type ≡ type_number kind
  pub long : 0 < body_size kind

-- the value is supported, and admits this element
abbrev pub Offers : Tree → Fixed → Type 0
Offers v x = IsSupported v × Admits v (fixed x)

-- the offer is one of the value: what a choice of its shape, with its default and further values, admits, the value does
pub record IsOffer (v : Tree) (offer : OfferView) : Type 0 where
  pub shape : Shape
  pub kind : Kind
  pub default : Fixed
  pub further : List Fixed
  pub its_shape : offer.shape ≡ shape_number shape
  pub its_type : offer.type_ ≡ type_number kind
  pub its_size : offer.size ≡ body_size kind
  pub values : AreElements kind (default ∷ further) offer.values.now
  pub plain : plain_of v ≡ fixed default
  pub supported : IsSupported (choice shape 0 kind default further) → IsSupported v
  pub admits : (x : Fixed) → AdmitsContent shape default further x → Admits v (fixed x)

-- the values of the offer have bytes, and the default is there
abbrev pub HasValues : OfferView → Type 0
HasValues offer = (0 < offer.size) × (offer.size ≤ length offer.values.now)

-- both values are supported and admit the value at the front of these bytes, of the kind with this type number
pub record IsShared (v w : Tree) (type : ℕ) (b : List ℕ) : Type 0 where
  pub kind : Kind
  pub its_type : type ≡ type_number kind
  pub long : body_size kind ≤ length b
  pub first : Offers v (value_of kind b)
  pub second : Offers w (value_of kind b)

-- the values of two offers are supported and admit the value at the front of these bytes, each as a value of its kind
abbrev pub AreAdmitting : OfferView → OfferView → List ℕ → Type 0
AreAdmitting a b bytes =
    (v w : Tree) (o : IsOffer v a) (p : IsOffer w b) → Offers v (value_of o.kind bytes) × Offers w (value_of p.kind bytes)
