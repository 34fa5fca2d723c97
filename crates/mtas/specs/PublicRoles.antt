-- Public roles (Card 1; trustor-centric public roles, MTAS, Definition 4): who can use a role, what refusal 14 tells, how a role starts.
use Rattle.std.specs.Prelude.{◌≡◌, ◌⊎◌, ◌↔◌, ◌≢◌, List, true, false, ℕ, ◌<◌}
use Rattle.mtas.specs.Fact.{Fact, enrolled, trusts, role, permission, public, granted, attached, Below16}
use Rattle.mtas.specs.State.{State}
use Rattle.mtas.specs.Call.{Call, AddRole, AssignPerm, RevokePerm, AssignRH, RevokeRH, arguments}
use Rattle.mtas.specs.Layout.{view}
use Rattle.mtas.specs.LawTest.{LawfulWords}
use Rattle.mtas.specs.Record.{request, decode}
use Rattle.mtas.specs.Monitor.{monitor}

-- kinds 13 to 16 from c on i#r, and the permission or role of c's own that they link to it
pub data LinksTo (c i r : ℕ) : Call → Fact → Type 0 where
  grant : {p : ℕ} → LinksTo c i r (AssignPerm p i r) (permission c p)
  ungrant : {p : ℕ} → LinksTo c i r (RevokePerm p i r) (permission c p)
  attach : {q : ℕ} → LinksTo c i r (AssignRH q i r) (role c q)
  detach : {q : ℕ} → LinksTo c i r (RevokeRH q i r) (role c q)

-- all else is in order, but i#r is a private role of another issuer
pub record Indoors (st : State) (c i r : ℕ) (k : Call) (own : Fact) : Type 0 where
  pub is_issuer : c < 16
  pub is_enrolled : st.stands (enrolled c) ≡ true
  pub small : Below16 (arguments k)
  pub is_trusted : st.stands (trusts i c) ≡ true
  pub has_own : st.stands own ≡ true
  pub is_there : st.stands (role i r) ≡ true
  pub another : c ≢ i
  pub is_private : st.stands (public i r) ≡ false

pub record PublicRoles : Type 0 where
  -- 'a lawful one has only present roles there, and links across estates only on public ones'
  pub public_present : (ws : List ℕ) → LawfulWords ws → (i r : ℕ) → (view ws).stands (public i r) ≡ true → (view ws).stands (role i r) ≡ true
  pub grants_on_public : (ws : List ℕ) → LawfulWords ws → (j p i r : ℕ) → j ≢ i → (view ws).stands (granted j p i r) ≡ true → (view ws).stands (public i r) ≡ true
  pub attachments_on_public : (ws : List ℕ) → LawfulWords ws → (j q i r : ℕ) → j ≢ i → (view ws).stands (attached j q i r) ≡ true → (view ws).stands (public i r) ≡ true
  -- who can use i#r: i itself, and where it is public those whom i trusts
  pub can_use : (ws b : List ℕ) {c i r : ℕ} {k : Call} {own : Fact} → LawfulWords ws → LinksTo c i r k own → decode b ≡ request c k
      → (monitor ws b).answer.refusal ≡ 0 → (c ≡ i) ⊎ (((view ws).stands (trusts i c) ≡ true) × ((view ws).stands (public i r) ≡ true))
  -- of kinds 13 to 16, refusal 14 is given exactly then: 'role or senior not public across estates', 'directly after 10'
  pub private_iff : (ws b : List ℕ) {c i r : ℕ} {k : Call} {own : Fact} → LawfulWords ws → LinksTo c i r k own → decode b ≡ request c k
      → ((monitor ws b).answer.refusal ≡ 14) ↔ Indoors (view ws) c i r k own
  -- 'a role starts private'
  pub starts_private : (ws b : List ℕ) (c r : ℕ) → LawfulWords ws → decode b ≡ request c (AddRole r)
      → (monitor ws b).answer.refusal ≡ 0 → (view (monitor ws b).words).stands (public c r) ≡ false
