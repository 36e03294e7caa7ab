-- The steps on a vertex's counts: what they leave, and what they make of an image. Assumes nothing.
use mathlib.Core.Path.{◌≡◌, refl, sym, ap, ◌∙◌, subst}
use mathlib.Core.Logic.{◌≢◌}
use mathlib.Core.Bool.{Bool, true, false}
use mathlib.Core.List.{List}
use Prim.Native.Nat.{ℕ, zero, suc, ◌+◌, ◌-◌, ◌≤◌, ◌<◌}
use native.Mathlib.Numerals.{add-one}
use native.Mathlib.Omega.{arith}
use Rattle.model.specs.Shape.{Shape, GoodShape}
use Rattle.model.specs.State.{Kind, State}
use Rattle.model.specs.Bytes.{Fields, phi_at, image, fields_of}
use Rattle.model.proofs.Fields.{phi-image}
use Rattle.layout.specs.Setters.{set_phi}
use Rattle.layout.proofs.Apart.{count-above}
use Rattle.layout.proofs.Images.{image-ext, with_phi, set_phi-image}
use Rattle.layout.proofs.Tables.{entry_other, entry-is}
use Rattle.moves.specs.Proper.{Proper}
use Rattle.moves.specs.Counts.{with_counts, step, CanStep, recounted}

-- ---- one step

-- a step that has room up to m has it up to more, and leads to no number past m
pub step-wider : (more : Bool) {m k : ℕ} (x : ℕ) → m ≤ k → CanStep more m x → CanStep more k x
step-wider true x l h = omega arith
step-wider false x l h = h

pub step-below : (more : Bool) (m x : ℕ) → x < m → CanStep more (m - 1) x → step more x < m
step-below true m x l h = omega arith
step-below false m x l h = omega arith

-- ---- on any bytes

module _ (S : Shape) (f : ℕ → ℕ) where
  -- one level more, at the upper end
  pub recounted-more : (bs : List ℕ) (w j k : ℕ)
      → recounted S f bs w j (suc k) ≡ set_phi S (recounted S f bs w j k) w (j + k) (f (phi_at S (recounted S f bs w j k) w (j + k)))
  unfolding recounted
  recounted-more bs w j zero = let e : j + 0 ≡ j = omega arith in rw e refl
  recounted-more bs w j (suc k) =
      let e : j + suc k ≡ suc j + k = omega arith in
      rw e (recounted-more (set_phi S bs w j (f (phi_at S bs w j))) w (suc j) k)

  -- the counts above stay
  pub recounted-above : (bs : List ℕ) (w j k x : ℕ) → j + k ≤ x → phi_at S (recounted S f bs w j k) w x ≡ phi_at S bs w x
  unfolding recounted
  recounted-above bs w j zero x l = refl
  recounted-above bs w j (suc k) x l =
      recounted-above (set_phi S bs w j (f (phi_at S bs w j))) w (suc j) k x (omega arith)
      ∙ count-above S bs w j (f (phi_at S bs w j)) x (omega arith)

  -- a loop over the levels: the count that comes next is as it was, and one turn changes it
  module _ (bs₀ : List ℕ) (w j : ℕ) {bs : List ℕ} (x : ℕ) (now : bs ≡ recounted S f bs₀ w j x) where
    pub next-count : phi_at S bs w (j + x) ≡ phi_at S bs₀ w (j + x)
    next-count = ap (λ (b : List ℕ). phi_at S b w (j + x)) now ∙ recounted-above bs₀ w j x (j + x) (omega arith)

    pub next_level : {next : List ℕ} (i y : ℕ) → i ≡ j + x → y ≡ f (phi_at S bs w i) → next ≡ set_phi S bs w i y → next ≡ recounted S f bs₀ w j (x + 1)
    next_level i y e c put = rw add-one (cc (recounted-more bs₀ w j x, now, e, c, put))

-- ---- on images

-- counts that are the same at every place
pub counts-ext : (F : Fields) → GoodShape F.kind.shape → (g : ℕ → ℕ → ℕ) → ((v x : ℕ) → g v x ≡ F.phi v x) → image F ≡ image (with_counts F g)
unfolding with_counts
counts-ext F good g e =
    image-ext F (with_counts F g) good (record {
      kind = refl;
      n = refl;
      edges = refl;
      rank = λ v l. refl;
      mate = λ v l. refl;
      phi = λ v x l k. sym (e v x);
      owns = λ v w l k. refl;
    })

-- g is the counts of F, but for y at the level j of w
pub set_count-image : (F : Fields) → GoodShape F.kind.shape → F.kind.top < F.kind.shape.levels → (w j y : ℕ) (g : ℕ → ℕ → ℕ) → w < F.kind.shape.most
    → j ≤ F.kind.top → g w j ≡ y → ((v x : ℕ) → (v ≡ w → x ≢ j) → g v x ≡ F.phi v x)
    → set_phi F.kind.shape (image F) w j y ≡ image (with_counts F g)
unfolding with_phi with_counts
set_count-image F good room w j y g l b on off =
    set_phi-image F good w j y l (omega arith) b ∙ counts-ext (with_phi F w j y) good g (λ v x. entry-is F.phi w j y g v x on (off v x))

-- g is the counts of F, but for those that f makes at the levels of w from j up to j + k
pub recounted-image : (f : ℕ → ℕ) (F : Fields) → GoodShape F.kind.shape → F.kind.top < F.kind.shape.levels → (w j k : ℕ) (g : ℕ → ℕ → ℕ)
    → w < F.kind.shape.most → j + k ≤ suc F.kind.top → ((x : ℕ) → j ≤ x → x < j + k → g w x ≡ f (F.phi w x))
    → ((v x : ℕ) → (v ≡ w → j ≤ x → x < j + k → ⊥) → g v x ≡ F.phi v x) → recounted F.kind.shape f (image F) w j k ≡ image (with_counts F g)
unfolding recounted with_phi with_counts
recounted-image f F good room w j zero g l b on off = counts-ext F good g (λ v x. off v x (λ e p q. omega arith))
recounted-image f F good room w j (suc k) g l b on off =
    let S : Shape = F.kind.shape in
    let y : ℕ = f (F.phi w j) in
    let first : set_phi S (image F) w j (f (phi_at S (image F) w j)) ≡ image (with_phi F w j y) =
    ap (λ (z : ℕ). set_phi S (image F) w j (f z)) (phi-image F good w j l (omega arith) (omega arith)) ∙ set_phi-image F good w j y l (omega arith) (omega arith) in
    ap (λ (bs : List ℕ). recounted S f bs w (suc j) k) first
    ∙ recounted-image f (with_phi F w j y) good room w (suc j) k g l (omega arith)
    (λ x p q. on x (omega arith) (omega arith) ∙ ap f (sym (entry_other F.phi w j y w x (λ e. omega arith))))
    (λ v x d. entry-is F.phi w j y g v x (on j (omega arith) (omega arith))
    (λ c. off v x (λ e p q. d e (omega (arith, c e)) (omega arith))))

-- ---- on the bytes of a proper state, but for the counts

module _ {K : Kind} (s : State) (p : Proper K s) (c : ℕ → ℕ → ℕ) where
  pub set_count-proper : (w j y : ℕ) (g : ℕ → ℕ → ℕ) → w < K.shape.most → j ≤ K.top → g w j ≡ y
      → ((v x : ℕ) → (v ≡ w → x ≢ j) → g v x ≡ c v x)
      → set_phi K.shape (image (with_counts (fields_of s) c)) w j y ≡ image (with_counts (fields_of s) g)
  unfolding with_counts fields_of
  set_count-proper w j y g l b on off =
      let F : Fields = with_counts (fields_of s) c in
      subst (λ (L : Kind). w < L.shape.most → j ≤ L.top → set_phi L.shape (image F) w j y ≡ image (with_counts F g)) p.kind
      (λ l b. set_count-image F p.good p.range.room w j y g l b on off) l b

  pub recounted-proper : (f : ℕ → ℕ) (w j k : ℕ) (g : ℕ → ℕ → ℕ) → w < K.shape.most → j + k ≤ suc K.top
      → ((x : ℕ) → j ≤ x → x < j + k → g w x ≡ f (c w x)) → ((v x : ℕ) → (v ≡ w → j ≤ x → x < j + k → ⊥) → g v x ≡ c v x)
      → recounted K.shape f (image (with_counts (fields_of s) c)) w j k ≡ image (with_counts (fields_of s) g)
  unfolding with_counts fields_of
  recounted-proper f w j k g l b on off =
      let F : Fields = with_counts (fields_of s) c in
      subst (λ (L : Kind). w < L.shape.most → j + k ≤ suc L.top → recounted L.shape f (image F) w j k ≡ image (with_counts F g)) p.kind
      (λ l b. recounted-image f F p.good p.range.room w j k g l b on off) l b
