pub mod Numbers
pub mod RawLaws
pub mod SetLaws
pub mod BodyLaws
pub mod FrameLaws
pub mod PutLaws
pub mod FeedLaws
pub mod StreamLaws
