pub mod OffsetCalls
