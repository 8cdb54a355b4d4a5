-- What is true of the lengths of every device: sectors and rows follow one another.
use Rattle.std.specs.Prelude.{◌≡◌, ◌≤◌, ◌<◌, ◌+◌, ◌*◌, ℕ, suc}
use Rattle.std.proofs.Common.{sym, ◌∙◌, ap, arith, inl, inr, add-one}
use Rattle.std.proofs.Math.Nat.{mul-suc, mul-le-mul_left}
use Rattle.sectors.specs.Geometry.{IsSectorSize}

pub long_sector : (size : ℕ) → IsSectorSize size → 512 ≤ size
long_sector size (inl is) = omega (arith, is)
long_sector size (inr (inl is)) = omega (arith, is)
long_sector size (inr (inr (inl is))) = omega (arith, is)
long_sector size (inr (inr (inr is))) = omega (arith, is)

-- a sector's length goes into the header's
pub header_sectors : (size : ℕ) → IsSectorSize size → (n : ℕ) × (4096 ≡ size * n)
header_sectors size (inl is) = (8, ap (λ (s : ℕ). s * 8) (sym is))
header_sectors size (inr (inl is)) = (4, ap (λ (s : ℕ). s * 4) (sym is))
header_sectors size (inr (inr (inl is))) = (2, ap (λ (s : ℕ). s * 2) (sym is))
header_sectors size (inr (inr (inr is))) = (1, ap (λ (s : ℕ). s * 1) (sym is))

-- whatever the length of one is, those before another end where it begins at the latest
pub they_follow : (size h k : ℕ) → h < k → size * h + size ≤ size * k
they_follow size h k below =
    omega (arith, mul-suc size h, mul-le-mul_left {m = suc h} {n = k} size (omega (arith, below)))

pub one_more : (size n : ℕ) → size * (n + 1) ≡ size * n + size
one_more size n = ap (λ (k : ℕ). size * k) (add-one n) ∙ mul-suc size n
