-- The names of the fields that WARC 1.1 defines. Assumes nothing.
use Rattle.std.specs.Prelude.{List, ℕ}
use Rattle.leaves.specs.Octets.{octets}
use Rattle.standard.specs.declared.names.WarcHeader.{WarcHeader}
use Rattle.standard.specs.declared.names.WarcHeader.TheVariants.{WarcType, WarcRecordId, WarcDate, ContentLength, ContentType, WarcConcurrentTo, WarcBlockDigest, WarcPayloadDigest, WarcIpAddress, WarcRefersTo, WarcRefersToTargetUri, WarcRefersToDate, WarcTargetUri, WarcTruncated, WarcWarcinfoId, WarcFilename, WarcProfile, WarcIdentifiedPayloadType, WarcSegmentOriginId, WarcSegmentNumber, WarcSegmentTotalLength}

-- "the 21 `WarcHeader` names"
abbrev pub name_of : WarcHeader → List ℕ
name_of WarcType = octets "WARC-Type"
name_of WarcRecordId = octets "WARC-Record-ID"
name_of WarcDate = octets "WARC-Date"
name_of ContentLength = octets "Content-Length"
name_of ContentType = octets "Content-Type"
name_of WarcConcurrentTo = octets "WARC-Concurrent-To"
name_of WarcBlockDigest = octets "WARC-Block-Digest"
name_of WarcPayloadDigest = octets "WARC-Payload-Digest"
name_of WarcIpAddress = octets "WARC-IP-Address"
name_of WarcRefersTo = octets "WARC-Refers-To"
name_of WarcRefersToTargetUri = octets "WARC-Refers-To-Target-URI"
name_of WarcRefersToDate = octets "WARC-Refers-To-Date"
name_of WarcTargetUri = octets "WARC-Target-URI"
name_of WarcTruncated = octets "WARC-Truncated"
name_of WarcWarcinfoId = octets "WARC-Warcinfo-ID"
name_of WarcFilename = octets "WARC-Filename"
name_of WarcProfile = octets "WARC-Profile"
name_of WarcIdentifiedPayloadType = octets "WARC-Identified-Payload-Type"
name_of WarcSegmentOriginId = octets "WARC-Segment-Origin-ID"
name_of WarcSegmentNumber = octets "WARC-Segment-Number"
name_of WarcSegmentTotalLength = octets "WARC-Segment-Total-Length"
