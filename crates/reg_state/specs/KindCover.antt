-- When a kind covers another, by renamings of its identities to the other's: `packet` of packet
-- identities, and `null` of null ones.
use Rattle.std.specs.Prelude.{◌≡◌, ℕ, ◌≤◌, ◌≤ℤ◌, Option, Some, None, IfSome}
use Rattle.reg_state.specs.declared.kinds.Kind.{Kind}
use Rattle.reg_state.specs.declared.kinds.Kind.TheVariants.{Unset, Number, Context, Stack, Packet, PacketEnd, Map, MapValue, MapValueOrNull}
use Rattle.reg_state.specs.Scalars.{Has, Encloses}

-- the packet identity that a kind names
abbrev pub packet_identity_of : Kind → Option ℕ
packet_identity_of (Packet fixed identity least greatest proved) = Some identity
packet_identity_of k = None

-- the null identity that a kind names
abbrev pub null_identity_of : Kind → Option ℕ
null_identity_of (MapValueOrNull m identity) = Some identity
null_identity_of k = None

-- the renamings give this name to the identity that the kind names
pub record IsCalled (packet null : ℕ → ℕ) (k : Kind) (name : ℕ) : Type 0 where
  pub packet_name : IfSome (packet_identity_of k) (λ i. packet i ≡ name)
  pub null_name : IfSome (null_identity_of k) (λ i. null i ≡ name)

-- each number of b is one of a; pointers agree but for limits, which are no narrower in a, and for
-- proved bytes, which are no more
abbrev pub KindCovers : (ℕ → ℕ) → (ℕ → ℕ) → Kind → Kind → Type 0
KindCovers packet null Unset b = Unit {0}
KindCovers packet null (Number a) (Number b) = (x : ℕ) → Has b x → Has a x
KindCovers packet null Context Context = Unit {0}
KindCovers packet null (Stack f o) (Stack f' o') = (f ≡ f') × (o ≡ o')
KindCovers packet null (Packet f i l g p) (Packet f' i' l' g' p') =
    (f ≡ f') × (packet i ≡ i') × (l ≤ℤ l') × (g' ≤ℤ g) × (p ≤ p')
KindCovers packet null PacketEnd PacketEnd = Unit {0}
KindCovers packet null (Map m) (Map m') = m ≡ m'
KindCovers packet null (MapValue m l g) (MapValue m' l' g') = (m ≡ m') × (l ≤ℤ l') × (g' ≤ℤ g)
KindCovers packet null (MapValueOrNull m i) (MapValueOrNull m' i') = (m ≡ m') × (null i ≡ i')
KindCovers packet null a b = ⊥

-- a covers b, and where they are numbers their bits and limits show it
abbrev pub KindEncloses : (ℕ → ℕ) → (ℕ → ℕ) → Kind → Kind → Type 0
KindEncloses packet null (Number a) (Number b) = Encloses a b
KindEncloses packet null a b = KindCovers packet null a b

-- the kind is not that of a number
abbrev pub IsNoNumber : Kind → Type 0
IsNoNumber (Number numbers) = ⊥
IsNoNumber k = Unit {0}
