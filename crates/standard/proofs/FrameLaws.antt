-- A law of the standard's names. Assumes nothing.
use mathlib.Core.Path.{◌≡◌, refl}
use Prim.Native.Nat.{ℕ, ◌≤◌}
use native.Mathlib.Omega.{arith}
use lib.ListN.{length}
use Rattle.standard.specs.Names.{name_of}
use Rattle.standard.specs.declared.names.WarcHeader.{WarcHeader}
use Rattle.standard.specs.declared.names.WarcHeader.TheVariants.{WarcType, WarcRecordId, WarcDate, ContentLength, ContentType, WarcConcurrentTo, WarcBlockDigest, WarcPayloadDigest, WarcIpAddress, WarcRefersTo, WarcRefersToTargetUri, WarcRefersToDate, WarcTargetUri, WarcTruncated, WarcWarcinfoId, WarcFilename, WarcProfile, WarcIdentifiedPayloadType, WarcSegmentOriginId, WarcSegmentNumber, WarcSegmentTotalLength}

-- no name is longer than 28 octets
pub name_fits : (h : WarcHeader) → length (name_of h) ≤ 28
name_fits WarcType = omega arith
name_fits WarcRecordId = omega arith
name_fits WarcDate = omega arith
name_fits ContentLength = omega arith
name_fits ContentType = omega arith
name_fits WarcConcurrentTo = omega arith
name_fits WarcBlockDigest = omega arith
name_fits WarcPayloadDigest = omega arith
name_fits WarcIpAddress = omega arith
name_fits WarcRefersTo = omega arith
name_fits WarcRefersToTargetUri = omega arith
name_fits WarcRefersToDate = omega arith
name_fits WarcTargetUri = omega arith
name_fits WarcTruncated = omega arith
name_fits WarcWarcinfoId = omega arith
name_fits WarcFilename = omega arith
name_fits WarcProfile = omega arith
name_fits WarcIdentifiedPayloadType = omega arith
name_fits WarcSegmentOriginId = omega arith
name_fits WarcSegmentNumber = omega arith
name_fits WarcSegmentTotalLength = omega arith
