-- The integers as a ring, how large sums and products are, and how near a shifted number is to what it was shifted from: the ring by induction, the rest by cases of the signs.
use Prim.Native.Nat.{ℕ, zero, suc, ◌+◌, ◌-◌, ◌*◌, ◌/◌, ◌≤◌, ◌<◌}
use mathlib.Core.Path.{◌≡◌, refl, sym, ◌∙◌, ap, subst}
use native.Mathlib.Omega.{arith}
use native.Mathlib.Nat.{mod-lt, div-add-mod, mul-suc, mul-le-mul_left, le_of_mul-le-mul_left}
use lib.Dec.{ltb, ltb→lt, nltb→le}
use lib.IntN.{ℤ, pos, negsuc, neg_ℤ, nat_abs, sub_ℕ, suc_ℤ, pred_ℤ, ℤ_ind, suc_ℤ-+ℤ, pred_ℤ-+ℤ, suc_ℤ-*ℤ, pred_ℤ-*ℤ, *ℤ_comm, zero-*ℤ, +ℤ_one, -ℤ_one, +ℤ_idl, +ℤ_idr, +ℤ_assoc, +ℤ_comm, +ℤ_invr, +ℤ_invl, neg_ℤ-+ℤ, -ℤ-+ℤ_cancel, ◌+ℤ◌, ◌-ℤ◌, ◌*ℤ◌}
use lib.Signed.{shr_z}
use Rattle.lifting.proofs.WrapLaws.{by_cond}

-- ---- the ring

pub swap_last : (a b c : ℤ) → a +ℤ b +ℤ c ≡ a +ℤ c +ℤ b
swap_last a b c = +ℤ_assoc a b c ∙ ap (λ x. a +ℤ x) (+ℤ_comm b c) ∙ sym (+ℤ_assoc a c b)

-- (a + b) + (c + d), the inner two exchanged
pub middle : (a b c d : ℤ) → (a +ℤ b) +ℤ (c +ℤ d) ≡ (a +ℤ c) +ℤ (b +ℤ d)
middle a b c d = sym (+ℤ_assoc (a +ℤ b) c d) ∙ ap (λ x. x +ℤ d) (swap_last a b c) ∙ +ℤ_assoc (a +ℤ c) b d

pub *ℤ-distrib : (a b c : ℤ) → (a +ℤ b) *ℤ c ≡ a *ℤ c +ℤ b *ℤ c
*ℤ-distrib a b c = ℤ_ind (λ a. (a +ℤ b) *ℤ c ≡ a *ℤ c +ℤ b *ℤ c)
    (ap (λ x. x *ℤ c) (+ℤ_idl b) ∙ sym (ap (λ x. x +ℤ b *ℤ c) (zero-*ℤ c) ∙ +ℤ_idl (b *ℤ c)))
    (λ n h. subst (λ x. (x +ℤ b) *ℤ c ≡ x *ℤ c +ℤ b *ℤ c) (sym (+ℤ_one (pos n))) (up (pos n) h))
    (λ n h. subst (λ x. (x +ℤ b) *ℤ c ≡ x *ℤ c +ℤ b *ℤ c) (sym (-ℤ_one (neg_ℤ (pos n)))) (down (neg_ℤ (pos n)) h))
    a
  where
    up : (x : ℤ) → (x +ℤ b) *ℤ c ≡ x *ℤ c +ℤ b *ℤ c → (suc_ℤ x +ℤ b) *ℤ c ≡ suc_ℤ x *ℤ c +ℤ b *ℤ c
    up x h = ap (λ y. y *ℤ c) (suc_ℤ-+ℤ x b) ∙ suc_ℤ-*ℤ (x +ℤ b) c ∙ ap (λ y. y +ℤ c) h ∙ swap_last (x *ℤ c) (b *ℤ c) c ∙ ap (λ y. y +ℤ b *ℤ c) (sym (suc_ℤ-*ℤ x c))

    down : (x : ℤ) → (x +ℤ b) *ℤ c ≡ x *ℤ c +ℤ b *ℤ c → (pred_ℤ x +ℤ b) *ℤ c ≡ pred_ℤ x *ℤ c +ℤ b *ℤ c
    down x h = ap (λ y. y *ℤ c) (pred_ℤ-+ℤ x b) ∙ pred_ℤ-*ℤ (x +ℤ b) c ∙ ap (λ y. y -ℤ c) h ∙ swap_last (x *ℤ c) (b *ℤ c) (neg_ℤ c) ∙ ap (λ y. y +ℤ b *ℤ c) (sym (pred_ℤ-*ℤ x c))

pub *ℤ-distrib-left : (a b c : ℤ) → a *ℤ (b +ℤ c) ≡ a *ℤ b +ℤ a *ℤ c
*ℤ-distrib-left a b c = *ℤ_comm a (b +ℤ c) ∙ *ℤ-distrib b c a ∙ ap (λ x. x +ℤ c *ℤ a) (*ℤ_comm b a) ∙ ap (λ x. a *ℤ b +ℤ x) (*ℤ_comm c a)

pub negℤ-*ℤ : (a c : ℤ) → neg_ℤ a *ℤ c ≡ neg_ℤ (a *ℤ c)
negℤ-*ℤ a c =
    sym (+ℤ_idr (neg_ℤ a *ℤ c)) ∙ ap (λ x. neg_ℤ a *ℤ c +ℤ x) (sym (+ℤ_invr (a *ℤ c))) ∙ sym (+ℤ_assoc (neg_ℤ a *ℤ c) (a *ℤ c) (neg_ℤ (a *ℤ c)))
    ∙ ap (λ x. x +ℤ neg_ℤ (a *ℤ c)) (sym (*ℤ-distrib (neg_ℤ a) a c) ∙ ap (λ x. x *ℤ c) (+ℤ_invl a) ∙ zero-*ℤ c) ∙ +ℤ_idl (neg_ℤ (a *ℤ c))

pub *ℤ-negℤ : (a c : ℤ) → a *ℤ neg_ℤ c ≡ neg_ℤ (a *ℤ c)
*ℤ-negℤ a c = *ℤ_comm a (neg_ℤ c) ∙ negℤ-*ℤ c a ∙ ap neg_ℤ (*ℤ_comm c a)

pub *ℤ-assoc : (a b c : ℤ) → (a *ℤ b) *ℤ c ≡ a *ℤ (b *ℤ c)
*ℤ-assoc a b c = ℤ_ind (λ a. (a *ℤ b) *ℤ c ≡ a *ℤ (b *ℤ c))
    (ap (λ x. x *ℤ c) (zero-*ℤ b) ∙ zero-*ℤ c ∙ sym (zero-*ℤ (b *ℤ c)))
    (λ n h. subst (λ x. (x *ℤ b) *ℤ c ≡ x *ℤ (b *ℤ c)) (sym (+ℤ_one (pos n))) (up (pos n) h))
    (λ n h. subst (λ x. (x *ℤ b) *ℤ c ≡ x *ℤ (b *ℤ c)) (sym (-ℤ_one (neg_ℤ (pos n)))) (down (neg_ℤ (pos n)) h))
    a
  where
    up : (x : ℤ) → (x *ℤ b) *ℤ c ≡ x *ℤ (b *ℤ c) → (suc_ℤ x *ℤ b) *ℤ c ≡ suc_ℤ x *ℤ (b *ℤ c)
    up x h = ap (λ y. y *ℤ c) (suc_ℤ-*ℤ x b) ∙ *ℤ-distrib (x *ℤ b) b c ∙ ap (λ y. y +ℤ b *ℤ c) h ∙ sym (suc_ℤ-*ℤ x (b *ℤ c))

    down : (x : ℤ) → (x *ℤ b) *ℤ c ≡ x *ℤ (b *ℤ c) → (pred_ℤ x *ℤ b) *ℤ c ≡ pred_ℤ x *ℤ (b *ℤ c)
    down x h = ap (λ y. y *ℤ c) (pred_ℤ-*ℤ x b) ∙ *ℤ-distrib (x *ℤ b) (neg_ℤ b) c ∙ ap (λ y. y +ℤ neg_ℤ b *ℤ c) h ∙ ap (λ y. x *ℤ (b *ℤ c) +ℤ y) (negℤ-*ℤ b c) ∙ sym (pred_ℤ-*ℤ x (b *ℤ c))

-- ---- how large

pub abs_neg : (a : ℤ) → nat_abs (neg_ℤ a) ≡ nat_abs a
abs_neg (pos zero) = refl
abs_neg (pos (suc n)) = refl
abs_neg (negsuc n) = refl

pub abs-mul : (a b : ℤ) → nat_abs (a *ℤ b) ≡ nat_abs a * nat_abs b
abs-mul (pos a) (pos b) = refl
abs-mul (pos a) (negsuc b) = abs_neg (pos (a * suc b))
abs-mul (negsuc a) (pos b) = abs_neg (pos (suc a * b))
abs-mul (negsuc a) (negsuc b) = refl

-- a and b are at most e apart
abs-sub : (a b e : ℕ) → a ≤ b + e → b ≤ a + e → nat_abs (sub_ℕ a b) ≤ e
abs-sub a b e h k = by_cond (ltb a b) (λ z. nat_abs z ≤ e) (λ t. let l = ltb→lt a b t in omega arith) (λ t. let l = nltb→le a b t in omega arith)

pub abs-add : (a b : ℤ) → nat_abs (a +ℤ b) ≤ nat_abs a + nat_abs b
abs-add (pos a) (pos b) = omega arith
abs-add (pos a) (negsuc b) = abs-sub a (suc b) _ (omega arith) (omega arith)
abs-add (negsuc a) (pos b) = abs-sub b (suc a) _ (omega arith) (omega arith)
abs-add (negsuc a) (negsuc b) = omega arith

-- ---- nearness: a and b differ by at most e

pub record Near (a b : ℤ) (e : ℕ) : Type 0 where
  pub near : nat_abs (a -ℤ b) ≤ e

pub near_add : {a b c d : ℤ} {e f : ℕ} → Near a b e → Near c d f → Near (a +ℤ c) (b +ℤ d) (e + f)
near_add {a} {b} {c} {d} h k = record { near = rw (neg_ℤ-+ℤ b d, middle a c (neg_ℤ b) (neg_ℤ d)) (omega (arith, abs-add (a -ℤ b) (c -ℤ d), h.near, k.near)) }

pub near-neg : {a b : ℤ} {e : ℕ} → Near a b e → Near (neg_ℤ a) (neg_ℤ b) e
near-neg {a} {b} h = record { near = rw (← neg_ℤ-+ℤ a (neg_ℤ b), abs_neg (a -ℤ b)) h.near }

pub near-size : {a b : ℤ} {e : ℕ} → Near a b e → nat_abs a ≤ nat_abs b + e
near-size {a} {b} {e} h = subst (λ x. nat_abs x ≤ nat_abs b + e) (-ℤ-+ℤ_cancel a b) (omega (arith, abs-add (a -ℤ b) b, h.near))

pub near-wide : {a b : ℤ} {e f : ℕ} → e ≤ f → Near a b e → Near a b f
near-wide l h = record { near = omega (arith, h.near) }

pub near_trans : {a b c : ℤ} {e f : ℕ} → Near a b e → Near b c f → Near a c (e + f)
near_trans {a} {b} {c} {e} {f} h k = record { near = subst (λ x. nat_abs x ≤ e + f) joined (omega (arith, abs-add (a -ℤ b) (b -ℤ c), h.near, k.near)) }
  where
    joined : (a -ℤ b) +ℤ (b -ℤ c) ≡ a -ℤ c
    joined = sym (+ℤ_assoc (a -ℤ b) b (neg_ℤ c)) ∙ ap (λ x. x -ℤ c) (-ℤ-+ℤ_cancel a b)

scaled : (m a b : ℤ) → m *ℤ a -ℤ m *ℤ b ≡ m *ℤ (a -ℤ b)
scaled m a b = ap (λ x. m *ℤ a +ℤ x) (sym (*ℤ-negℤ m b)) ∙ sym (*ℤ-distrib-left m a (neg_ℤ b))

pub near-scale : (m : ℕ) {a b : ℤ} {e : ℕ} → Near a b e → Near (pos m *ℤ a) (pos m *ℤ b) (m * e)
near-scale m {a} {b} h = record { near = rw (scaled (pos m) a b, abs-mul (pos m) (a -ℤ b)) (mul-le-mul_left m h.near) }

pub near_unscale : (m : ℕ) {a b : ℤ} {e f : ℕ} → 0 < m → e ≤ m * f → Near (pos m *ℤ a) (pos m *ℤ b) e → Near a b f
near_unscale m {a} {b} l k h =
    let g = rw (scaled (pos m) a b, abs-mul (pos m) (a -ℤ b)) at h.near in
    record { near = le_of_mul-le-mul_left {k = m} (omega (arith, g)) l }

-- m times the shifted number is less than m below the number
pub near-shift : (m : ℕ) (x : ℤ) → 0 < m → Near (pos m *ℤ shr_z x m) x (m - 1)
near-shift m (pos a) l = record { near = minus (m * (a / m)) a (omega (arith, div-add-mod a m, mod-lt a l)) (omega (arith, div-add-mod a m, mod-lt a l)) }
  where
    minus : (x y : ℕ) → x ≤ y + (m - 1) → y ≤ x + (m - 1) → nat_abs (pos x -ℤ pos y) ≤ m - 1
    minus x zero h k = omega arith
    minus x (suc y) h k = abs-sub x (suc y) (m - 1) h k
near-shift m (negsuc a) l = record { near = minus (m * suc (a / m)) (suc a) (omega (arith, mul-suc m (a / m), div-add-mod a m, mod-lt a l)) (omega (arith, mul-suc m (a / m), div-add-mod a m, mod-lt a l)) }
  where
    minus : (x y : ℕ) → x ≤ y + (m - 1) → y ≤ x + (m - 1) → nat_abs (neg_ℤ (pos x) +ℤ pos y) ≤ m - 1
    minus zero y h k = omega arith
    minus (suc x) y h k = abs-sub y (suc x) (m - 1) k h
